-- Headers whose keys and values are bytes.
use Rattle.std.specs.Prelude.{ℕ, ◌<◌, [], slice_index, unwrap_or}
use Rattle.wire_spec.specs.declared.record.Header.{Header}

-- the key and the value of a header are bytes; a null value has none
pub record HasBytes (h : Header) : Type 0 where
  pub key : (at : ℕ) → slice_index h.key at < 256
  pub value : (at : ℕ) → slice_index (unwrap_or h.value []) at < 256
