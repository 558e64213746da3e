-- What a call of `transform` does, by what its file of a program gives.
use Rattle.std.proofs.Common.{◌≡◌, ◌⊎◌, ℕ, ◌+◌, List, Option, Some, Result, Ok, Err, refl, inl, inr}
use Rattle.machine_spec.specs.{Image.Program, declared.helper.Table.Table}
use Rattle.program_file.specs.declared.choice.GivenProgram.{GivenProgram}
use Rattle.script.specs.Words.{word_at}
use Rattle.commands.specs.declared.{halts.Halt.Halt, halts.ProgramFault.ProgramFault, status.Status.Status}
use Rattle.commands.specs.declared.status.Status.TheVariants.{Failed}
use Rattle.commands.specs.declared.halts.Halt.TheVariants as halt
use Rattle.commands.specs.FileTransforms.{StreamsAs, KeepsUnlessAccepted, CallWrites, CallLeaves, LeavesGiven}
use Rattle.commands.specs.FileTransforms.{LoadsGiven, TransformsGiven, status_of_halt, Leaves, Streams}
use Rattle.commands.specs.{Files.KeepsAll, Given.GivesNamed, Listings.source_of}

module _ (Gives : Result GivenProgram ProgramFault → Type 0) where
  -- a program was loaded, and run on the bytes
  as_given : (program : Program) (bytes : List ℕ) (outputs : ℕ) (status : Status) (files : ℕ → Option (List ℕ)) →
      LoadsGiven Gives (Ok program) → StreamsAs program bytes outputs status files →
      TransformsGiven Gives bytes outputs status files
  as_given program bytes outputs status files (given, gives, (same, accepted)) streams =
      inr (Ok given, gives, inr (rw same at streams))

  as_left : (program : Program) (bytes : List ℕ) (names : List (List ℕ)) (before after : List ℕ → Option (List ℕ)) →
      LoadsGiven Gives (Ok program) → Leaves program bytes names before after →
      LeavesGiven Gives bytes names before after
  as_left program bytes names before after (given, gives, (same, accepted)) leaves =
      inr (given, gives, rw same at leaves)

  -- none was loaded
  as_unloaded : (halted : Halt) (bytes : List ℕ) (outputs : ℕ) (files : ℕ → Option (List ℕ)) →
      LoadsGiven Gives (Err halted) → TransformsGiven Gives bytes outputs (status_of_halt halted) files
  as_unloaded (halt.Program fault) bytes outputs files (inl gives) = inr (Err fault, gives, refl)
  as_unloaded (halt.Program fault) bytes outputs files (inr (given, gives, refused)) = absurd refused
  as_unloaded (halt.Image fault text) bytes outputs files (inl refused) = absurd refused
  as_unloaded (halt.Image fault text) bytes outputs files (inr (given, gives, refused)) =
      inr (Ok given, gives, inl (fault, refused, refl))
  as_unloaded (halt.File word) bytes outputs files unread = inl refl
  as_unloaded halt.Memory bytes outputs files unread = inl refl
  as_unloaded (halt.Batch refusal) bytes outputs files (inl refused) = absurd refused
  as_unloaded (halt.Batch refusal) bytes outputs files (inr (given, gives, refused)) = absurd refused
  as_unloaded halt.Full bytes outputs files (inl refused) = absurd refused
  as_unloaded halt.Full bytes outputs files (inr (given, gives, refused)) = absurd refused

module _ (named : Option Table) (names : List (List ℕ)) (before : List ℕ → Option (List ℕ)) (first : List ℕ)
    (is : first ≡ word_at names 0) where
  -- what the file of the first word gives was loaded, or not
  abbrev pub Loads : Result Program Halt → Type 0
  Loads result =
      (image : List ℕ) → before first ≡ Some image → LoadsGiven (GivesNamed first named image) result

  loads_word : (result : Result Program Halt) (image : List ℕ) → Loads result →
      before (word_at names 0) ≡ Some image → LoadsGiven (GivesNamed (word_at names 0) named image) result
  loads_word result image loads known = rw is at (loads image (rw is known))

  -- a program is loaded, and run on the bytes
  module _ (stdin : Option (List ℕ)) (mid after : List ℕ → Option (List ℕ)) (status : Status) (program : Program)
      (loaded : Loads (Ok program)) (kept : KeepsAll before mid)
      (streams : (bytes : List ℕ) → source_of (word_at names 1) stdin (mid (word_at names 1)) ≡ Some bytes →
      Streams program bytes names status mid after) where
    pub called : CallWrites named names stdin before after status
    called image bytes known source =
        as_given (GivesNamed (word_at names 0) named image) program bytes _ status _
        (loads_word (Ok program) image loaded known) (streams bytes (rw kept source)).0

    pub called_leaves : CallLeaves named names stdin before after
    called_leaves image bytes known source =
        as_left (GivesNamed (word_at names 0) named image) program bytes names before after
        (loads_word (Ok program) image loaded known)
        (λ output within. rw (kept (word_at names (output + 2))) at ((streams bytes (rw kept source)).1 output within))

  -- so it is accepted
  pub loaded_accepted : (after : List ℕ → Option (List ℕ)) (program : Program) → Loads (Ok program) →
      KeepsUnlessAccepted named names before after
  loaded_accepted after program loaded image known =
      let (given, gives, (same, accepted)) = loads_word (Ok program) image loaded known in
      inr (given, gives, accepted)

  -- none is loaded
  pub uncalled : (stdin : Option (List ℕ)) (after : List ℕ → Option (List ℕ)) (halted : Halt) → Loads (Err halted) →
      CallWrites named names stdin before after (status_of_halt halted)
  uncalled stdin after halted unloaded image bytes known source =
      as_unloaded (GivesNamed (word_at names 0) named image) halted bytes _ _
      (loads_word (Err halted) image unloaded known)

-- a call that changes no file
module _ (named : Option Table) (names : List (List ℕ)) (before after : List ℕ → Option (List ℕ))
    (kept : KeepsAll before after) where
  pub left_all : (stdin : Option (List ℕ)) → CallLeaves named names stdin before after
  left_all stdin image bytes is source = inl (λ output within. kept _)

  pub kept_all : KeepsUnlessAccepted named names before after
  kept_all image known = inl kept

-- the status that is answered may be that there was no memory to say why
pub told_as : (named : Option Table) (names : List (List ℕ)) (stdin : Option (List ℕ))
    (before after : List ℕ → Option (List ℕ)) (status told : Status) →
    CallWrites named names stdin before after status → (told ≡ status) ⊎ (told ≡ Failed) →
    CallWrites named names stdin before after told
told_as named names stdin before after status told does (inl same) = rw same does
told_as named names stdin before after status told does (inr is_failed) = λ image bytes known source. inl is_failed
