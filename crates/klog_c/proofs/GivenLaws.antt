-- What loads and explanations do, by what bytes give as a program.
use Rattle.std.proofs.Common.{◌≡◌, ◌≢◌, ℕ, Bool, List, Option, Some, option_map, Result, Ok, Err, sym, subst, inl, inr}
use Rattle.machine_spec.specs.declared.helper.Table.{Table}
use Rattle.program_file.specs.declared.{fault.FileFault.FileFault, choice.GivenProgram.GivenProgram}
use Rattle.program_file.specs.declared.fault.FileFault.TheVariants as file
use Rattle.program_file.specs.Choice.{given_program, program_in}
use Rattle.wire_spec.specs.Memory.{IsFault}
use Rattle.klog_c.specs.{declared.object.Object.Object, declared.faults.TheConstants.MEMORY, Numbers.file_number}
use Rattle.klog_c.specs.Calls.{table_with_number, given_with, LoadsProgram, LoadsGiven, Loads}
use Rattle.klog_c.specs.Explained.{extent_of, ExplainsProgram, ExplainsGiven, Explained}

-- what bytes give by a table that a number names, if the number names one
module _ (bytes : List ℕ) (number : ℕ) (named : Option Table) (table : Some named ≡ table_with_number number)
    (before after : Option Object) (told : ℕ) where
  -- ---- loads

  module _ (place_before place : ℕ) where
    by_table : LoadsGiven (given_program named bytes) before after place_before place told →
        Loads (given_with bytes number) before after place_before place told
    by_table is = subst (λ (t : Option (Option Table)). Loads (option_map (λ named. given_program named bytes) t) before
        after place_before place told) table is

    pub loaded : (given : GivenProgram) → given_program named bytes ≡ Ok given →
        LoadsProgram (program_in given) before after place_before place told →
        Loads (given_with bytes number) before after place_before place told
    loaded given says is = by_table (subst (λ (said : Result GivenProgram FileFault). LoadsGiven said before after
        place_before place told) (sym says) is)

    no_memory : (said : Result GivenProgram FileFault) → after ≡ before → place ≡ place_before → told ≡ MEMORY →
        LoadsGiven said before after place_before place told
    no_memory (Ok given) same kept is = inr (inl ((same, is), kept))
    no_memory (Err fault) same kept is = (inr (same, is), kept)

    pub not_loaded : (fault : FileFault) → IsFault file.Memory fault (given_program named bytes) → after ≡ before →
        place ≡ place_before → told ≡ file_number fault →
        Loads (given_with bytes number) before after place_before place told
    not_loaded file.Memory says same kept is = by_table (no_memory (given_program named bytes) same kept is)
    not_loaded fault says same kept is = by_table (subst (λ (said : Result GivenProgram FileFault). LoadsGiven said
        before after place_before place told) (sym (says (λ e. cc))) (inl (same, is), kept))

  -- ---- explanations

  module _ (alone : Bool) where
    explained_by : ExplainsGiven (given_program named bytes) (extent_of alone) before after told →
        Explained (given_with bytes number) alone before after told
    explained_by is = subst (λ (t : Option (Option Table)).
        Explained (option_map (λ named. given_program named bytes) t) alone before after told) table is

    pub explained : (given : GivenProgram) → given_program named bytes ≡ Ok given →
        ExplainsProgram (program_in given) (extent_of alone) before after told →
        Explained (given_with bytes number) alone before after told
    explained given says is = explained_by (subst (λ (said : Result GivenProgram FileFault). ExplainsGiven said
        (extent_of alone) before after told) (sym says) is)

    none_said : (said : Result GivenProgram FileFault) → after ≡ before → told ≡ MEMORY →
        ExplainsGiven said (extent_of alone) before after told
    none_said (Ok given) same is = inr (same, is)
    none_said (Err fault) same is = inr (same, is)

    pub not_explained : (fault : FileFault) → IsFault file.Memory fault (given_program named bytes) → after ≡ before →
        told ≡ file_number fault → Explained (given_with bytes number) alone before after told
    not_explained file.Memory says same is = explained_by (none_said (given_program named bytes) same is)
    not_explained fault says same is = explained_by (subst (λ (said : Result GivenProgram FileFault). ExplainsGiven said
        (extent_of alone) before after told) (sym (says (λ e. cc))) (inl (same, is)))
