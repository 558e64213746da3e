-- What is decoded is a batch that a log takes, and so is what is put.
use Rattle.std.proofs.Common.{ℕ, ◌<◌, ◌≤◌, List, length, Option, Some, None, arith, IfSome}
use Rattle.std.proofs.lemmas.Int.{ints}
use Rattle.wire_spec.specs.declared.limits.TheConstants.{MAX_KEY, MAX_VALUE, TIMESTAMP_END}
use Rattle.log_spec.specs.Logs.{FitsLog}
use Rattle.script.specs.Faults.{text_size}
use Rattle.commands.specs.Puts.{put_batch}

part_fits : (part : Option (List ℕ)) (most : ℕ) → text_size part ≤ most → IfSome part (λ bytes. length bytes ≤ most)
part_fits None most h = tt
part_fits (Some bytes) most h = h

pub put_fits : (timestamp : ℕ) (key value : Option (List ℕ)) → timestamp < TIMESTAMP_END → text_size key ≤ MAX_KEY →
    text_size value ≤ MAX_VALUE → FitsLog (put_batch timestamp key value)
put_fits timestamp key value time short_key short_value = record {
  count = omega arith;
  each = (
    record {
      limits = record {
        timestamp = record { sfits = omega arith };
        key = part_fits key MAX_KEY short_key;
        value = part_fits value MAX_VALUE short_value;
        count = omega arith;
        headers = tt;
      };
      from = omega (arith, ints);
      to = omega (arith, ints);
    },
    tt,
  );
}
