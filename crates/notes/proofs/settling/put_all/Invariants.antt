use Rattle.std.proofs.Common.{◌≡◌, length, take}
use Rattle.notes.specs.Derived.{HasEachClaim, pair_at}
use Rattle.notes.proofs.settling.put_all.Given as goal

abbrev pub invariant-loop-pair : goal.invariant-loop-pair
invariant-loop-pair l = record {
  long : length l.states ≡ length l.initial.states;
  each : HasEachClaim l.states (pair_at (take l.pair-index l.pairs));
}
