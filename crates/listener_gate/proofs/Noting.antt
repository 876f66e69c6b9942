-- What a gate exposes after one more note.
use Rattle.std.proofs.Common.{◌≡◌, ℕ, ◌-◌, ◌^◌, min, Bool, true, false, List, [], ◌∷◌, ◌++◌, length, Option, Some}
use Rattle.std.proofs.Common.{None, option_map, IfSome, refl, ap, ◌∙◌, arith, length-append}
use Rattle.std.proofs.lemmas.List.{length-set}
use Rattle.vod_base.specs.declared.links.Link.{Ghosts as LinkGhosts}
use Rattle.vod_base.specs.Links.{IoEvent}
use Rattle.vod_base.specs.Gates.{Content, Part, MaySplit, after_rejoin, fresh_part, new_part, told_rejoined}
use Rattle.listener_gate.specs.declared.gates.ListenerGate.{ListenerGate}
use Rattle.listener_gate.specs.declared.listeners.Listener.{Ghosts}
use Rattle.listener_gate.specs.declared.histories.PartHistory.{PartHistory}
use Rattle.listener_gate.specs.declared.histories.PartNote.{PartNote}
use Rattle.listener_gate.specs.declared.histories.GateNote.{GateNote}
use Rattle.listener_gate.specs.declared.histories.GateNote.TheVariants.{Opened, NotOpened, Split, CameBack}
use Rattle.listener_gate.specs.Histories.{part_noted, part_after, Shared, shared_noted, shared_after, split_noted}
use Rattle.listener_gate.specs.Histories.{splits_after, none_shared, content_with, told_if}

part-append : {C : Type 0} (faults : C → ℕ) (told : C → Option (List IoEvent)) (p : Part) (ns : List (Option C ×
    PartNote)) (n : Option C × PartNote)
    → part_after faults told p (ns ++ n ∷ []) ≡ part_noted faults told (part_after faults told p ns) n
part-append faults told p [] n = refl
part-append faults told p (m ∷ ms) n = part-append faults told (part_noted faults told p m) ms n

shared-append : {P : Type 0} (part_of : P → Part) (s : Shared) (ns : List (Option P × GateNote)) (n : Option P ×
    GateNote)
    → shared_after part_of s (ns ++ n ∷ []) ≡ shared_noted part_of (shared_after part_of s ns) n
shared-append part_of s [] n = refl
shared-append part_of s (m ∷ ms) n = shared-append part_of (shared_noted part_of s m) ms n

splits-append : {P : Type 0} (count : ℕ) (ns : List (Option P × GateNote)) (n : Option P × GateNote)
    → splits_after count (ns ++ n ∷ []) ≡ split_noted (splits_after count ns) n
splits-append count [] n = refl
splits-append count (m ∷ ms) n = splits-append (split_noted count m) ms n

-- the splits are counted as parts
parts_counted : {P : Type 0} (part_of : P → Part) (s : Shared) (n : Option P × GateNote)
    → length (shared_noted part_of s n).parts ≡ split_noted (length s.parts) n
parts_counted part_of s (p, Opened how) = refl
parts_counted part_of s (p, NotOpened) = refl
parts_counted part_of s (p, Split) = length-append s.parts (None ∷ [])
parts_counted part_of s (None, CameBack) = refl
parts_counted part_of s (Some p, CameBack) = length-set s.parts (part_of p).number (Some (part_of p))

splits_are_parts : {P : Type 0} (part_of : P → Part) (s : Shared) (ns : List (Option P × GateNote))
    → length (shared_after part_of s ns).parts ≡ splits_after (length s.parts) ns
splits_are_parts part_of s [] = refl
splits_are_parts part_of s (n ∷ ns) =
    splits_are_parts part_of (shared_noted part_of s n) ns
    ∙ ap (λ (k : ℕ). splits_after k ns) (parts_counted part_of s n)

told_by : (tells : Bool) (f : Content → Content) (old new : Content) → new ≡ f old
    → told_if tells new ≡ option_map f (told_if tells old)
told_by true f old new e = ap Some e
told_by false f old new e = refl

-- the same of a part that is split off where that is possible
told_part : (tells : Bool) (old part : Content) → (MaySplit old → part ≡ new_part old) →
    IfSome (told_if tells old) MaySplit → told_if tells part ≡ option_map new_part (told_if tells old)
told_part true old part step may = ap Some (step may)
told_part false old part step may = refl

told_joined : (tells : Bool) (part old new : Content) → new ≡ after_rejoin part.own old
    → told_if tells new ≡ told_rejoined (told_if tells part) (told_if tells old)
told_joined true part old new e = ap Some e
told_joined false part old new e = refl

-- what connections expose, and whether the listener does
pub record View (C : Type 0) : Type 0 where
  pub faults : C → ℕ
  pub told : C → Option (List IoEvent)
  pub tells : Bool

-- the two histories of a gate
pub record GateState (C : Type 0) : Type 0 where
  pub history : List (Option (PartHistory C) × GateNote)
  pub own : PartHistory C

abbrev pub view_of : {L C : Type 0} → Ghosts L C → LinkGhosts C → View C
view_of G K = record { faults = K.faults; told = K.told; tells = G.tells }

abbrev pub state_of : {L C : Type 0} {G : Ghosts L C} {K : LinkGhosts C} → ListenerGate L C G K → GateState C
state_of gate = record { history = gate.history.items; own = gate.own }

abbrev pub part_of : {C : Type 0} → View C → PartHistory C → Part
part_of v part = part_after v.faults v.told (fresh_part part.number) part.notes.items

abbrev pub content_of : {C : Type 0} → View C → GateState C → Content
content_of v s = content_with (shared_after (part_of v) none_shared s.history) (part_of v s.own)

abbrev pub exposed : {C : Type 0} → View C → GateState C → Option Content
exposed v s = told_if v.tells (content_of v s)

-- one more note on the gate, which does this to what the gate exposes
pub record NotesGate {C : Type 0} (v : View C) (f : Content → Content) (old : GateState C)
    (new : List (Option (PartHistory C) × GateNote)) : Type 0 where
  pub note : Option (PartHistory C) × GateNote
  pub history : new ≡ old.history ++ note ∷ []
  pub step : (s : Shared) (own : Part) → content_with (shared_noted (part_of v) s note) own ≡ f (content_with s own)

pub gate_told : {C : Type 0} (v : View C) (f : Content → Content) (old : GateState C)
    {new : List (Option (PartHistory C) × GateNote)} → NotesGate v f old new
    → exposed v (record old { history = new }) ≡ option_map f (exposed v old)
gate_told v f old {new} r =
    let own = part_of v old.own in
    told_by v.tells f (content_of v old) (content_of v (record old { history = new }))
    (ap (λ (l : List _). content_with (shared_after (part_of v) none_shared l) own) r.history
    ∙ ap (λ (s : Shared). content_with s own) (shared-append (part_of v) none_shared old.history r.note)
    ∙ r.step (shared_after (part_of v) none_shared old.history) own)

-- one more note on the gate's own connections, which does this
pub record NotesPart {C : Type 0} (v : View C) (f : Content → Content) (old : GateState C) (new : PartHistory C)
    : Type 0 where
  pub note : Option C × PartNote
  pub number : new.number ≡ old.own.number
  pub notes : new.notes.items ≡ old.own.notes.items ++ note ∷ []
  pub step : (s : Shared) (p : Part) → content_with s (part_noted v.faults v.told p note) ≡ f (content_with s p)

pub part_told : {C : Type 0} (v : View C) (f : Content → Content) (old : GateState C) {new : PartHistory C}
    → NotesPart v f old new → exposed v (record old { own = new }) ≡ option_map f (exposed v old)
part_told v f old {new} r =
    let s = shared_after (part_of v) none_shared old.history in
    told_by v.tells f (content_of v old) (content_of v (record old { own = new }))
    (ap (λ (k : ℕ). content_with s (part_after v.faults v.told (fresh_part k) new.notes.items)) r.number
    ∙ ap (λ (l : List _). content_with s (part_after v.faults v.told (fresh_part old.own.number) l)) r.notes
    ∙ ap (content_with s) (part-append v.faults v.told (fresh_part old.own.number) old.own.notes.items r.note)
    ∙ r.step s (part_of v old.own))

-- a part that was split off
pub new_part_told : {C : Type 0} (v : View C) (old : GateState C) (number : ℕ) → IfSome (exposed v old) MaySplit
    → number ≡ min (splits_after 0 old.history) (2 ^ 32 - 1)
    → told_if v.tells (content_with none_shared (fresh_part number)) ≡ option_map new_part (exposed v old)
new_part_told v old number may number_is =
    told_part v.tells (content_of v old) (content_with none_shared (fresh_part number)) (λ may.
    let parts = splits_are_parts (part_of v) none_shared old.history in
    let room = may.1 in
    let right : number ≡ length (shared_after (part_of v) none_shared old.history).parts =
    omega (arith, number_is, parts, room) in
    ap (λ (k : ℕ). content_with none_shared (fresh_part k)) right) may

-- a part that came back
pub rejoin_told : {C : Type 0} (v : View C) (part old : GateState C) {new : List (Option (PartHistory C) × GateNote)}
    → new ≡ old.history ++ (Some part.own, CameBack) ∷ []
    → exposed v (record old { history = new }) ≡ told_rejoined (exposed v part) (exposed v old)
rejoin_told v part old {new} is =
    told_joined v.tells (content_of v part) (content_of v old) (content_of v (record old { history = new }))
    (ap (λ (l : List _). content_with (shared_after (part_of v) none_shared l) (part_of v old.own)) is
    ∙ ap (λ (s : Shared). content_with s (part_of v old.own))
    (shared-append (part_of v) none_shared old.history (Some part.own, CameBack)))

-- the count of splits after a note
pub splits_noted : {P : Type 0} (old : List (Option P × GateNote)) {new : List (Option P × GateNote)}
    (n : Option P × GateNote) → new ≡ old ++ n ∷ [] → splits_after 0 new ≡ split_noted (splits_after 0 old) n
splits_noted old n is = ap (splits_after 0) is ∙ splits-append 0 old n
