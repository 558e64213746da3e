-- Readings and publications keep the rule of the published table.
use Rattle.std.proofs.Common.{◌≡◌, ◌≢◌, ℕ, ◌+◌, List, [], ◌∷◌, ◌++◌, refl, sym, ap, subst, ◌∙◌, ⊎_elim}
use Rattle.std.proofs.lemmas.List.{append_assoc, append-nil}
use mathlib.Core.Option.{some}
use lib.ListN.{get_elem?}
use Rattle.atomic_table.proofs.Lists.{at_set, at_snoc}
use Rattle.left_right.specs.Register.{Admits, Turns, TurnsAt}
use Rattle.log_spec.specs.Catalogue.{Version, LiveTable, IsLoad, Makes, with_version}
use Rattle.catalogue.specs.declared.readings.Readings.{Readings}
use Rattle.catalogue.specs.Publications.{StartsWith, IsPublished, Reads, IsOneMore}

abbrev pub first_readings : Readings
first_readings = record { times = 0; loads = [] }

starts_with_itself : (loads : List Version) → StartsWith loads loads
starts_with_itself loads = ([], sym (append-nil loads))

starts_with-more : (loads first : List Version) (version : Version) → StartsWith loads first →
    StartsWith (loads ++ version ∷ []) first
starts_with-more loads first version starts = (
  starts.0 ++ version ∷ [],
  ap (λ (all : List Version). all ++ version ∷ []) starts.1
      ∙ append_assoc first starts.0 (version ∷ []),
)

makes-more : (first table : LiveTable) (loads : List Version) (version : Version) → Makes first loads table →
    IsLoad table version → Makes first (loads ++ version ∷ []) (with_version table version)
makes-more first table [] version made load =
    (subst (λ (t : LiveTable). IsLoad t version) made load, ap (λ (t : LiveTable). with_version t version) made)
makes-more first table (earlier ∷ loads) version made load =
    (made.0, makes-more (with_version first earlier) table loads version made.1 load)

pub admits : Admits IsPublished first_readings
admits table views is = record {
  loads = is.loads;
  made = is.made;
  known = λ seat v at.
      ⊎_elim (is.known seat v) (λ (e : first_readings ≡ v). subst (λ (z : Readings). StartsWith is.loads z.loads) e
      (is.loads, refl))
      (at_snoc views first_readings v seat at);
}

-- a reader that looks at the table knows the loads that made it
pub looks : (seat : ℕ) (v : Readings) → Turns IsPublished seat v (λ x. x) (λ v x y w. Reads v x w)
looks seat v table views is at =
    let w : Readings = record { times = v.times + 1; loads = is.loads } in (
      w,
      record {
        loads = is.loads;
        made = is.made;
        known = λ j u there.
            ⊎_elim (λ (t : (j ≡ seat) × (w ≡ u)). subst (λ (z : Readings). StartsWith is.loads z.loads) t.1
            (starts_with_itself is.loads))
            (λ (t : (j ≢ seat) × (get_elem? views j ≡ some u)). is.known j u t.1) (at_set views seat j w u there);
      },
      record { times_is = refl; later = is.known seat v at; made = is.made },
    )

-- the writer adds a load
pub adds : (seat : ℕ) (v : Readings) (table next : LiveTable) → IsOneMore table next →
    TurnsAt IsPublished seat v table next (λ v x y w. IsOneMore x y)
adds seat v table next more views is at = (
  v,
  record {
    loads = is.loads ++ more.version ∷ [];
    made = subst (λ (t : LiveTable). Makes [] (is.loads ++ more.version ∷ []) t) (sym more.next_is)
        (makes-more [] table is.loads more.version is.made more.loaded);
    known = λ j u there.
        starts_with-more is.loads u.loads more.version
        (⊎_elim (λ (t : (j ≡ seat) × (v ≡ u)). subst (λ (z : Readings). StartsWith is.loads z.loads) t.1
        (is.known seat v at))
        (λ (t : (j ≢ seat) × (get_elem? views j ≡ some u)). is.known j u t.1) (at_set views seat j v u there));
  },
  more,
)

-- the same of the table that is equal to the next one
pub adds-equal : (seat : ℕ) (v : Readings) (table next shown : LiveTable) → IsOneMore table next → shown ≡ next →
    TurnsAt IsPublished seat v table shown (λ v x y w. IsOneMore x y)
adds-equal seat v table next shown more is =
    adds seat v table shown (subst (λ (t : LiveTable). IsOneMore table t) (sym is) more)
