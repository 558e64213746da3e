use Rattle.std.proofs.Common.{◌≡◌, take, string_bytes}
use Rattle.std.specs.List.{flat_map}
use Rattle.batch_text.specs.Lines.{record_line}
use Rattle.batch_text.proofs.records.record_text.Given as goal

abbrev pub invariant-loop-given : goal.invariant-loop-given
invariant-loop-given l =
    string_bytes l.text ≡ flat_map (record_line l.batch) (take l.given-index l.batch.records)
