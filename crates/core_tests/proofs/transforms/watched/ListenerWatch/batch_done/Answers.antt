use Rattle.std.proofs.Common.{◌≡◌, ◌∙◌, ℕ, List, [], ◌∷◌, ◌++◌, map, Bool, true, false, if◌then◌else◌, Option, Some, None}
use Rattle.std.proofs.Common.{refl, sym, ap}
use Rattle.std.specs.Bool.{OnTrue}
use Rattle.std.proofs.lemmas.{List.map-append, Option.same_Some}
use Rattle.batch_reader.specs.declared.reader.Position.{Position}
use Rattle.transform.specs.Tellings.{Telling, telling, AddsTellings}
use Rattle.core_tests.proofs.transforms.watched.ListenerWatch.batch_done.Goals as goal

abbrev telling_of : Position × ℕ → Telling
telling_of t = telling t.0 t.1

abbrev known : Bool → List (Position × ℕ) → Option (List Telling)
known is_whole kept = if is_whole then Some (map telling_of kept) else None

-- a telling more is known where all before it were
keeps : (was is : Bool) (before after : List (Position × ℕ)) (told : Position × ℕ) →
    OnTrue is ((was ≡ true) × (after ≡ before ++ told ∷ [])) →
    AddsTellings (known was before) (telling_of told ∷ []) (known is after)
keeps true true before after told kept all is = (
  map telling_of before,
  refl,
  sym (same_Some (map telling_of after) all is) ∙ ap (map telling_of) kept.1
      ∙ map-append telling_of before (told ∷ []),
)
keeps false true before after told kept all is = let wrong : false ≡ true = kept.0 in absurd cc
keeps true false before after told kept all is = absurd cc
keeps false false before after told kept all is = absurd cc

pub returns : goal.returns
returns c =
    keeps c.args.self.now.is_whole c.keep-self.result c.args.self.now.kept.items c.keep-self.new.kept.items
    (c.args.position, c.args.records) c.keep-self.ensures
