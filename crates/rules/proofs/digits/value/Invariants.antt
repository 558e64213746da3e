use Rattle.std.proofs.Common.{◌≡◌, ◌≤◌, ◌^◌, min, drop}
use Rattle.std.specs.Str.Parse.{digits_value_after, digits_value}
use Rattle.rules.proofs.digits.value.Given as goal

abbrev pub invariant-loop-digit : goal.invariant-loop-digit
invariant-loop-digit l = record {
  small : l.number ≤ 2 ^ 64;
  so_far : min (digits_value_after l.base l.number (drop l.digit-index l.digits)) (2 ^ 64)
      ≡ min (digits_value l.base l.digits) (2 ^ 64);
}
