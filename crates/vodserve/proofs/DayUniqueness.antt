-- A script that a library holds has one day: one text and one journal.
use Rattle.std.proofs.Common.{◌≡◌, ◌∙◌, ◌-◌, ◌<◌, ℕ, List, [], ◌∷◌, length, take, drop, map, get_or, refl, sym, ap}
use Rattle.std.proofs.Common.{subst, suc, zero, arith, string_bytes}
use Rattle.std.proofs.Math.ListN.{get_or-map}
use Rattle.std.proofs.lemmas.List.{length-map}
use Rattle.vod_base.specs.IoState.{File}
use Rattle.mpeg_scan.specs.StartCodes.{codes_of, read_after}
use Rattle.mpeg_scan.specs.Films.{IsFilm, slices_in, film_calls, units_in}
use Rattle.mpeg_scan.specs.PictureRates.{picture_time}
use Rattle.mpeg_scan.specs.CodeFacts.{rate_of}
use Rattle.mpeg_scan.specs.declared.units.Unit.{Unit as PictureUnit}
use Rattle.film_frames.specs.Pieces.{wire_size}
use Rattle.film_frames.specs.FramedRuns.{run_pieces}
use Rattle.film_frames.specs.declared.stored_films.Stored.{Stored}
use Rattle.inputs.proofs.VideoLemmas.{held_once}
use Rattle.day_run.specs.ClientStates.{MediaContent, source_content, trace_content}
use Rattle.day_run.specs.Days.{IsDay, SharedLink, link_of}
use Rattle.day_script.specs.ScriptReading.{Name, name_of, names_of}
use Rattle.day_run.specs.MediaPieces.{no_identity}
use Rattle.day_script.specs.Scripts.{AreLines}
use Rattle.day_run.specs.declared.media.Source.{Source}
use Rattle.day_run.specs.declared.media.Source.TheVariants.{Film, Trace}
use Rattle.day_script.specs.declared.scripts.Line.{Line}
use Rattle.day_script.specs.declared.scripts.Named.{Named}
use Rattle.day_script.specs.declared.scripts.Script.{Script}
use Rattle.day_script.specs.declared.scripts.SourceKind.{SourceKind}
use Rattle.day_script.specs.declared.scripts.SourceKind.TheVariants as kinds
use Rattle.day_run.proofs.DayUniqueness.{one-day}
use Rattle.offline_commands.specs.Days.{AreHeldAs, HoldsScript, IsHeldUnder}
use Rattle.offline_commands.proofs.DayLemmas.{first_of, lines_once, names_once, same_name, script_held}
use Rattle.offline_commands.proofs.PlanUniqueness.{trace_once}
use Rattle.vodserve.specs.Laws.{DayIsUnique, RunPrintsItsDay}

-- a film as it is played: its facts, and what its bytes say
abbrev content_as : List ℕ → ℕ → List PictureUnit → List ℕ → MediaContent
content_as video rate units slices = record {
  sizes = map (λ u. wire_size slices u) units;
  pieces = run_pieces (record {
    film = video;
    rate = rate;
    slice_starts = slices;
    units = take (length units - 0) (drop 0 units);
    identity = no_identity;
  });
  picture_units = picture_time rate;
}

abbrev content_in : List ℕ → MediaContent
content_in video =
    content_as video (rate_of (codes_of (read_after [] video))) (units_in (film_calls video))
    (slices_in (film_calls video))

content_is : (slot : ℕ) (stored : Stored) → source_content slot (Film stored) ≡ content_in stored.film.bytes.items
content_is slot stored =
    let video : List ℕ = stored.film.bytes.items in
    let slices : List ℕ = stored.film.slice_starts.items in
    let is : IsFilm video stored.film.rate stored.film.units.items slices = stored.film.grammar in
    ap (λ (r : ℕ). content_as video r stored.film.units.items slices) is.rate
    ∙ ap (λ (us : List PictureUnit). content_as video (rate_of (codes_of (read_after [] video))) us slices) is.units
    ∙ ap (λ (ss : List ℕ). content_as video (rate_of (codes_of (read_after [] video)))
    (units_in (film_calls video)) ss) is.slices

-- a source that a library holds under a name
record IsHeldSource (held : List File) (name : List ℕ) (kind : SourceKind) (source : Source) : Type 0 where
  held_as : IsHeldUnder kind held name source

-- what is held under a name is played in one way
content_once : {held : List File} {name : List ℕ} (slot : ℕ) (kind : SourceKind) (a b : Source) →
    IsHeldSource held name kind a → IsHeldSource held name kind b → source_content slot a ≡ source_content slot b
content_once {held} {name} slot kinds.Film (Film a) (Film b) p q =
    content_is slot a
    ∙ ap content_in (held_once held name a.film.bytes.items b.film.bytes.items p.held_as q.held_as)
    ∙ sym (content_is slot b)
content_once slot kinds.Film (Film a) (Trace b) p q = absurd q.held_as
content_once slot kinds.Film (Trace a) b p q = absurd p.held_as
content_once slot kinds.Trace (Film a) b p q = absurd p.held_as
content_once slot kinds.Trace (Trace a) (Film b) p q = absurd q.held_as
content_once {held} {name} slot kinds.Trace (Trace a) (Trace b) p q =
    ap (trace_content slot) (trace_once held name a.items b.items p.held_as q.held_as)

contents_same : (slot : ℕ) (xs ys : List Source) → length xs ≡ length ys
    → ((k : ℕ) (none : Source) → k < length xs → source_content slot (get_or xs k none)
    ≡ source_content slot (get_or ys k none)) → map (source_content slot) xs ≡ map (source_content slot) ys
contents_same slot [] [] long each = refl
contents_same slot [] (y ∷ ys) long each = absurd (omega (arith, long))
contents_same slot (x ∷ xs) [] long each = absurd (omega (arith, long))
contents_same slot (x ∷ xs) (y ∷ ys) long each =
    ap (λ (c : MediaContent). c ∷ map (source_content slot) xs) (each zero x (omega arith))
    ∙ ap (λ (cs : List MediaContent). source_content slot y ∷ cs)
    (contents_same slot xs ys (omega (arith, long)) (λ k none inside. each (suc k) none (omega (arith, inside))))

-- the films and traces of a script are played in one way
reels_once : {held : List File} {name : List ℕ} {a b : Script} {sources others : List Source} (slot : ℕ)
    → HoldsScript held name a → HoldsScript held name b → AreHeldAs held a.named.items sources
    → AreHeldAs held b.named.items others → map (source_content slot) sources ≡ map (source_content slot) others
reels_once {held} {name} {a} {b} {sources} {others} slot p q are others_are =
    let names : names_of a.named.items ≡ names_of b.named.items = names_once held name a b p q in
    let long : length sources ≡ length others =
    omega (
      arith,
      are.count,
      others_are.count,
      length-map a.named.items name_of,
      length-map b.named.items name_of,
      ap length names,
    ) in
    contents_same slot sources others long
    (λ k none inside.
    let one : Named = first_of a.named.items k (omega (arith, inside, are.count)) in
    let here : Named = get_or a.named.items k one in
    let there : Named = get_or b.named.items k one in
    let alike : name_of here ≡ name_of there =
    sym (get_or-map name_of a.named.items k one)
    ∙ ap (λ (ns : List Name). get_or ns k (name_of one)) names
    ∙ get_or-map name_of b.named.items k one in
    content_once {held = held} {name = string_bytes there.name} slot there.kind (get_or sources k none)
    (get_or others k none) (record {
      held_as =
          same_name here there alike held (get_or sources k none)
          (are.each k one none (omega (arith, inside, are.count)));
    }) (record { held_as = others_are.each k one none (omega (arith, inside, long, others_are.count)) }))

pub has_one_day : DayIsUnique
has_one_day held run text text' journal journal' p q =
    let link : SharedLink = link_of run.capacity run.journal run.slot p.sources in
    let other : SharedLink = link_of run.capacity run.journal run.slot q.sources in
    let lines : q.script.lines.items ≡ p.script.lines.items =
    lines_once held run.script q.script p.script q.read p.read in
    let links : other ≡ link =
    ap (λ (rs : List MediaContent). record {
      steps = run.capacity;
      limit = run.journal;
      slot_units = run.slot;
      media = rs;
    }) (reels_once run.slot q.read p.read q.loaded p.loaded) in
    one-day {link = link} p.link p.clients
    (subst (λ (n : ℕ). AreLines n p.script.lines.items) (sym (length-map p.sources (source_content run.slot))) p.lines)
    p.day
    (subst (λ (l : SharedLink). IsDay l p.script.lines.items text' journal') links
    (subst (λ (ls : List Line). IsDay other ls text' journal') lines q.day))

pub runs_its_day : RunPrintsItsDay
runs_its_day held store streams run ended ran told = record {
  script = ran.script;
  sources = ran.sources;
  read = script_held held ran.read told;
  loaded = ran.loaded held told;
  clients = ran.clients;
  lines = ran.lines;
  link = ran.link;
  day = ran.ran.day;
}
