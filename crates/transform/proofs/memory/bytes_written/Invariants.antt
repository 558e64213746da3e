use Rattle.std.proofs.Common.{◌≡◌, ◌≤◌, ◌*◌, ◌^◌, take}
use Rattle.transform.specs.Transformed.{bytes_written}
use Rattle.transform.proofs.memory.bytes_written.Given as goal

abbrev pub invariant-loop-output : goal.invariant-loop-output
invariant-loop-output l =
    (l.sum ≡ bytes_written (take l.output l.stream.outputs)) × (l.sum ≤ l.output * 2 ^ 64)
