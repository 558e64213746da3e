use Rattle.std.proofs.Common.{◌≡◌, ◌+◌, ◌-◌, ◌<◌, ◌≤◌, length, drop, ap, Option, Some, None, ◌∙◌, slice_range, take, arith, sym}
use Rattle.std.proofs.lemmas.List.{length-take}
use Rattle.std.specs.Option.{ok_or}
use Rattle.program_file.specs.declared.{file.Place.Place, fault.FileFault.TheVariants.Lines}
use Rattle.program_file.specs.declared.fault.FileFault.TheVariants.{Memory}
use Rattle.program_file.specs.Reading.{slot_named}
use Rattle.program_file.proofs.LineTexts.{no_place, line_read, line_place, answered}
use Rattle.program_file.proofs.lines.place_in.Goals as goal

pub returns-in_default : goal.returns-in_default
returns-in_default c =
    λ other. ap (λ (p : Option Place). ok_or p Lines) (no_place c.args.least c.args.slots
    (slice_range c.args.bytes.now c.args.start c.args.end)
    (rw (c.as_slice.ensures, c.in_default.is) at c.memchr.ensures))

pub returns-in_default-slot_named : goal.returns-in_default-slot_named
returns-in_default-slot_named c =
    let k = c.in-Some.space in
    let slot : c.slot_named.result
    ≡ slot_named (take k (slice_range c.args.bytes.now c.args.start c.args.end)) =
    rw c.as_slice.ensures at c.slot_named.ensures in
    let read = line_read c.args.least c.args.slots c.args.bytes.now c.args.start c.args.end c.memchr.result k
    (rw c.as_slice.ensures at c.memchr.ensures) c.in-Some.is in
    let none : slot_named (take k (slice_range c.args.bytes.now c.args.start c.args.end)) ≡ None =
    sym slot ∙ c.in_default-slot_named.is in
    λ other. ap (λ (p : Option Place). ok_or p Lines) (rw none at read)

pub returns : goal.returns
returns c =
    let k = c.in-Some.space in
    let slot : c.slot_named.result
    ≡ slot_named (take k (slice_range c.args.bytes.now c.args.start c.args.end)) =
    rw c.as_slice.ensures at c.slot_named.ensures in
    let some : slot_named (take k (slice_range c.args.bytes.now c.args.start c.args.end))
    ≡ Some c.in-Some-slot_named.slot = sym slot ∙ c.in-Some-slot_named.is in
    let found = rw c.as_slice.ensures at c.memchr.ensures in
    let read = line_read c.args.least c.args.slots c.args.bytes.now c.args.start c.args.end c.memchr.result k found
    c.in-Some.is in
    let high : k < length (slice_range c.args.bytes.now c.args.start c.args.end) = (rw c.in-Some.is at found).0.high in
    let within : c.args.start + k + 1 ≤ c.args.end =
    omega (arith, length-take (c.args.end - c.args.start) (drop c.args.start c.args.bytes.now)) in
    let place = line_place c.args.least c.args.slots c.args.bytes.now c.args.start c.args.end k
    c.in-Some-slot_named.slot c.in_ok-text.text (rw some at read) within c.in_ok-text.ensures.ok in
    answered Memory c.place_of.result _ (c.place_of.ensures ∙ ap (λ (p : Option Place). ok_or p Lines) (sym place))
