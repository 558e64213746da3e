use Rattle.std.proofs.Common.{◌≡◌, ◌+◌, ◌<◌, ap, Option, Some, None, Err, List, length, drop, take, arith, ◌∙◌}
use Rattle.std.proofs.lemmas.List.{take_rest, length-drop, drop-drop}
use Rattle.std.proofs.lemmas.Result.{err_from_is_err_and}
use Rattle.std.specs.Option.{ok_or}
use Rattle.memchr.specs.Find.{IsFirstByte, is_byte}
use Rattle.program_file.specs.declared.{file.Place.Place, fault.FileFault.TheVariants.Lines}
use Rattle.program_file.specs.Reading.{read_place}
use Rattle.program_file.proofs.LineTexts.{read_more, read_refused, read_cut, line_range, refused_by, taken_by}
use Rattle.program_file.proofs.lines.places_from.Goals as goal

pub returns-in_default : goal.returns-in_default
returns-in_default c =
    let bytes = c.args.bytes.now in
    let at = c.loop-at.at in
    let found : IsFirstByte (is_byte 10) (drop at bytes) None =
    rw (c.as_slice.ensures, take_rest bytes at, c.in_default.is) at c.memchr.ensures in
    λ other. ap (λ (p : Option (List Place)). ok_or p Lines) (read_cut c.args.slots (drop c.args.start bytes)
    c.loop-at.list.items c.loop-at.least (drop at bytes) c.loop-at.invariant.read found
    (omega (arith, length-drop at bytes)))

pub returns-in_err-place : goal.returns-in_err-place
returns-in_err-place c =
    let bytes = c.args.bytes.now in
    let at = c.loop-at.at in
    let size = c.in-Some.size in
    let found : IsFirstByte (is_byte 10) (drop at bytes) (Some size) =
    rw (c.as_slice.ensures, take_rest bytes at, c.in-Some.is) at c.memchr.ensures in
    let p = err_from_is_err_and c.from_residual.result c.from_residual.ensures.1 in
    rw (p.1, p.2) (λ other.
    let refused = refused_by _ _ (c.in_err-place.ensures other) in
    let line : read_place c.loop-at.least c.args.slots (take size (drop at bytes)) ≡ None =
    rw (line_range bytes at size) at refused.0 in
    ap (λ (p : Option (List Place)). ok_or p Lines) (read_refused c.args.slots (drop c.args.start bytes)
    c.loop-at.list.items c.loop-at.least (drop at bytes) size c.loop-at.invariant.read found line) ∙ ap Err refused.1)

pub loop-at-preserved : goal.loop-at-preserved
loop-at-preserved c =
    let bytes = c.args.bytes.now in
    let at = c.loop-at.at in
    let size = c.in-Some.size in
    let found : IsFirstByte (is_byte 10) (drop at bytes) (Some size) =
    rw (c.as_slice.ensures, take_rest bytes at, c.in-Some.is) at c.memchr.ensures in
    let line : read_place c.loop-at.least c.args.slots (take size (drop at bytes)) ≡ Some c.in_ok-place.place =
    rw (line_range bytes at size) at (taken_by _ _ c.in_ok-place.ensures) in
    let inside : size < length (drop at bytes) = found.0.high in
    let more = read_more c.args.slots (drop c.args.start bytes) c.loop-at.list.items c.loop-at.least (drop at bytes)
    size c.in_ok-place.place c.loop-at.invariant.read found line in
    record {
      within = omega (arith, length-drop at bytes);
      small = omega arith;
      read = rw (← drop-drop (size + 1) at bytes, c.in_ok-push.ensures.items) more;
    }
