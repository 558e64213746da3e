use Rattle.std.proofs.Common.{◌≡◌, drop}
use Rattle.std.specs.{List.list_all, Char.is_digit}
use Rattle.rules.proofs.digits.are_digits.Given as goal

abbrev pub invariant-loop-byte : goal.invariant-loop-byte
invariant-loop-byte l = list_all (λ d. is_digit d l.base) l.text
    ≡ list_all (λ d. is_digit d l.base) (drop l.byte-index l.text)
