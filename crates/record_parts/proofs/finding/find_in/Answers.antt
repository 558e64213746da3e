use Rattle.std.proofs.Common.{arith, refl, subst, ℕ, Option}
use Rattle.memchr.specs.Find.{FindsNeedle}
use Rattle.record_parts.proofs.Searches.{IsWindow, found, none_found, none_beyond}
use Rattle.record_parts.proofs.finding.find_in.Goals as goal

pub returns-then-place-part : goal.returns-then-place-part
returns-then-place-part c = none_beyond c.args.part.now c.args.bytes.now c.args.place (omega arith)

pub returns-in-Some : goal.returns-in-Some
returns-in-Some c =
    let is : IsWindow c.args.part.now c.args.bytes.now c.args.place c.window.result.now =
    record { start = omega arith; window_is = c.window.ensures } in
    found c.args.part.now c.args.bytes.now c.args.place c.window.result.now is c.in-Some.distance c.in-Some.ensures

pub returns-in-None : goal.returns-in-None
returns-in-None c =
    let is : IsWindow c.args.part.now c.args.bytes.now c.args.place c.window.result.now =
    record { start = omega arith; window_is = c.window.ensures } in
    none_found c.args.part.now c.args.bytes.now c.args.place c.window.result.now is c.in-None.ensures
