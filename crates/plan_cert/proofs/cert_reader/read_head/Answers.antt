use Rattle.std.proofs.Common.{◌≡◌, ℕ, List, codes, arith, refl, inl}
use Rattle.std.proofs.lemmas.Bool.{both_ways}
use Rattle.vod_base.specs.Splits.{IsSplitAtFirst}
use Rattle.plan_cert.specs.CertGrammar.{HasReadLines}
use Rattle.plan_cert.specs.CertGrammar.MayStand.{Title, Slots, Bytes}
use Rattle.plan_cert.proofs.GrammarLemmas.{read_none, read_more, breaks_missing, breaks_here, not_title, not_slots}
use Rattle.plan_cert.proofs.GrammarLemmas.{next_is, not_bytes, head_text}
use Rattle.plan_cert.proofs.cert_reader.read_head.Goals as goal

title_read : {text title rest : List ℕ} → IsSplitAtFirst 10 text title rest → title ≡ codes "smooth 1"
    → HasReadLines text 1 rest
title_read {text} cut is = read_more (next_is (read_none text) cut) (Title refl is)

pub returns-in_default : goal.returns-in_default
returns-in_default c =
    let text = c.args.text.now in
    (0, omega arith, inl (breaks_missing text 0 text (read_none text) c.in_default.ensures))

pub returns-then-not-is_text : goal.returns-then-not-is_text
returns-then-not-is_text c = (
  0,
  omega arith,
  inl (breaks_here (next_is (read_none _) c.in-Some.ensures) (
    not_title c.in-Some.title.now
        (λ e. both_ways c.is_text.result c.if-not-is_text.true (c.is_text.ensures.1 e)),
    λ ends. omega (arith, ends.after_head),
  )),
)

pub returns-in_default-split_at_first : goal.returns-in_default-split_at_first
returns-in_default-split_at_first c =
    let r1 = title_read c.in-Some.ensures (c.is_text.ensures.0 c.if-not-is_text.false) in
    (1, omega arith, inl (breaks_missing _ 1 c.in-Some.rest.now r1 c.in_default-split_at_first.ensures))

pub returns-in_default-number_after : goal.returns-in_default-number_after
returns-in_default-number_after c =
    let r1 = title_read c.in-Some.ensures (c.is_text.ensures.0 c.if-not-is_text.false) in (
      1,
      omega arith,
      inl (breaks_here (next_is r1 c.in-Some-split_at_first.ensures) (
        not_slots c.in-Some-split_at_first.slots_line.now c.in_default-number_after.ensures,
        λ ends. omega (arith, ends.after_head),
      )),
    )

pub returns-in_default-split_at_first-2 : goal.returns-in_default-split_at_first-2
returns-in_default-split_at_first-2 c =
    let r1 = title_read c.in-Some.ensures (c.is_text.ensures.0 c.if-not-is_text.false) in
    let r2 =
    read_more (next_is r1 c.in-Some-split_at_first.ensures)
    (Slots c.in-Some-number_after.slots refl c.in-Some-number_after.ensures) in (
      2,
      omega arith,
      inl (breaks_missing _ 2 c.in-Some-split_at_first.rest.now r2 c.in_default-split_at_first-2.ensures),
    )

pub returns-in_default-number_after-2 : goal.returns-in_default-number_after-2
returns-in_default-number_after-2 c =
    let r1 = title_read c.in-Some.ensures (c.is_text.ensures.0 c.if-not-is_text.false) in
    let r2 =
    read_more (next_is r1 c.in-Some-split_at_first.ensures)
    (Slots c.in-Some-number_after.slots refl c.in-Some-number_after.ensures) in (
      2,
      omega arith,
      inl (breaks_here (next_is r2 c.in-Some-split_at_first-2.ensures) (
        not_bytes c.in-Some-split_at_first-2.bytes_line.now c.in_default-number_after-2.ensures,
        λ ends. omega (arith, ends.after_head),
      )),
    )

pub returns : goal.returns
returns c =
    let text = c.args.text.now in
    let r1 = title_read c.in-Some.ensures (c.is_text.ensures.0 c.if-not-is_text.false) in
    let r2 =
    read_more (next_is r1 c.in-Some-split_at_first.ensures)
    (Slots c.in-Some-number_after.slots refl c.in-Some-number_after.ensures) in
    let r3 =
    read_more (next_is r2 c.in-Some-split_at_first-2.ensures)
    (Bytes c.in-Some-number_after-2.bytes refl c.in-Some-number_after-2.ensures) in
    record {
      small_slots = c.in-Some-number_after.ensures.small;
      small_bytes = c.in-Some-number_after-2.ensures.small;
      text_is = head_text c.in-Some-number_after.slots c.in-Some-number_after-2.bytes
          c.in-Some-split_at_first-2.rest.now (record {
            title = _;
            after_title = _;
            slots_line = _;
            after_slots = _;
            bytes_line = _;
            title_cut = c.in-Some.ensures.parts;
            title_is = c.is_text.ensures.0 c.if-not-is_text.false;
            slots_cut = c.in-Some-split_at_first.ensures.parts;
            slots_is = c.in-Some-number_after.ensures.words;
            bytes_cut = c.in-Some-split_at_first-2.ensures.parts;
            bytes_is = c.in-Some-number_after-2.ensures.words;
          });
      read = r3;
    }
