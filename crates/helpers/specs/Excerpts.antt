-- Excerpts of a record: its key and headers, and as value its own or a slice of one of its parts.
use Rattle.std.specs.Prelude.{Option, Some, None, option_map}
use Rattle.machine_spec.specs.declared.part.Part.{Part}
use Rattle.machine_spec.specs.declared.part.Part.TheVariants as part
use Rattle.helpers.specs.declared.{slices.PartSlice.PartSlice, excerpts.Excerpt.Excerpt, excerpts.Source.Source}
use Rattle.helpers.specs.declared.excerpts.Source.TheVariants as source

-- the part that a slice is of
abbrev pub source_part : Source → Option Part
source_part source.Whole = None
source_part source.Value = Some part.Value
source_part source.Key = Some part.Key
source_part (source.HeaderKey position) = Some (part.HeaderKey position)
source_part (source.HeaderValue position) = Some (part.HeaderValue position)

-- the slice that an excerpt has as its value, if it is not the record as it is
abbrev pub slice_of : Excerpt → Option PartSlice
slice_of excerpt =
    option_map (λ (p : Part). record { part = p; place = excerpt.place; count = excerpt.count })
    (source_part excerpt.source)
