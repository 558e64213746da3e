-- The programs that files give, and what calls do with them.
use Rattle.std.proofs.Common.{◌≡◌, ◌⊎◌, ℕ, Bool, List, Option, Some, Result, Ok, Err, sym, subst, inl, inr}
use Rattle.machine_spec.specs.{declared.helper.Table.Table, Image.Program}
use Rattle.program_file.specs.declared.{fault.FileFault.FileFault, choice.GivenProgram.GivenProgram}
use Rattle.program_file.specs.declared.fault.FileFault.TheVariants as file
use Rattle.program_file.specs.Choice.{given_program, program_in}
use Rattle.wire_spec.specs.Memory.{IsFault}
use Rattle.script.specs.declared.command.FileWord.{FileWord}
use Rattle.script.specs.declared.command.FileWord.TheVariants.{File}
use Rattle.commands.specs.declared.{given.Ungiven.Ungiven, halts.Halt.Halt, halts.ProgramFault.ProgramFault}
use Rattle.commands.specs.declared.{host.Host.Host, status.Status.Status, stop.Stop.Stop}
use Rattle.commands.specs.declared.given.Ungiven.TheVariants as ungiven
use Rattle.commands.specs.declared.halts.Halt.TheVariants as halt
use Rattle.commands.specs.declared.stop.Stop.TheVariants as stop
use Rattle.commands.specs.FileTransforms.{IsGivenTo, IsLoaded, IsUngiven, IsUnread, LoadsGiven}
use Rattle.commands.specs.Given.{AreBytesIn, Gives, GivesAs, GivesNamed, IsGiven, IsGivenBy, IsTold, OfGiven}
use Rattle.commands.specs.Given.{is_rules_name}
use Rattle.commands.specs.{Hosts.KeepsInputs, Hosts.PrintsOfFile, Images.first_bytes, Sessions.LoadFails}
use Rattle.commands.specs.Stops.{stop_of_file, EndsFor}
use Rattle.broker.specs.Deployments.{LoadIs}

pub read_as : (files : List ℕ → Option (List ℕ)) (name bytes : List ℕ) (named : Option Table)
    (result : Result GivenProgram Ungiven) → AreBytesIn files (File name) bytes →
    IsGivenBy (given_program named bytes) result → IsGiven files name named result
read_as files name bytes named (Ok given) are is = (bytes, are, is)
read_as files name bytes named (Err (ungiven.File fault)) are is = (bytes, are, is)
read_as files name bytes named (Err (ungiven.Unread cause)) are is = tt

-- what a file of known bytes gives
known_gives : (files : List ℕ → Option (List ℕ)) (name : List ℕ) (named : Option Table)
    (given : Result GivenProgram FileFault) (known : List ℕ) → Gives files (File name) named given →
    files name ≡ Some known → given_program named (first_bytes known) ≡ given
known_gives files name named given known (bytes, are, is) there = rw (are known there) at is

-- ---- calls that print

module _ {F I O E : Type 0} (bytes : F → List ℕ → Option (List ℕ)) (contents : O → Option (List ℕ))
    (old new : Host F I O E) (name : List ℕ) (named : Option Table) (status : Status)
    (Does : GivenProgram → Status → Option (List ℕ) → Option (List ℕ) → Type 0) (kept : KeepsInputs bytes old new) where
  pub prints_given : (given : GivenProgram) → Gives (bytes old.files) (File name) named (Ok given) →
      Does given status (contents old.stdout) (contents new.stdout) →
      PrintsOfFile bytes contents old new name (λ known. OfGiven (given_program named (first_bytes known)) Does status)
  prints_given given gives done = record {
    kept = kept;
    printed = λ known there. inr (rw (known_gives (bytes old.files) name named (Ok given) known gives there) done);
  }

  pub prints_none : (why : Ungiven) → IsGiven (bytes old.files) name named (Err why) → IsTold why status →
      contents new.stdout ≡ contents old.stdout →
      PrintsOfFile bytes contents old new name (λ known. OfGiven (given_program named (first_bytes known)) Does status)
  prints_none (ungiven.File fault) gives (inl refused) same = record {
    kept = kept;
    printed = λ known there.
        inr (rw (known_gives (bytes old.files) name named (Err fault) known gives there) (refused, same));
  }
  prints_none (ungiven.File fault) gives (inr failed) same = record { kept = kept; printed = λ known there. inl failed }
  prints_none (ungiven.Unread cause) gives failed same = record { kept = kept; printed = λ known there. inl failed }

-- ---- a transform

pub unread : (Gives : Result GivenProgram ProgramFault → Type 0) (halted : Halt) → IsUnread halted →
    IsUngiven Gives halted
unread Gives (halt.Program fault) is = absurd is
unread Gives (halt.File word) is = tt
unread Gives halt.Memory is = tt
unread Gives (halt.Image fault text) is = absurd is
unread Gives (halt.Batch refusal) is = absurd is
unread Gives halt.Full is = absurd is

-- by the file's name
pub of_name : (is_rules : Bool) (name : List ℕ) (named : Option Table) (bytes : List ℕ)
    (result : Result GivenProgram Halt) → is_rules_name name ≡ is_rules →
    IsGivenTo (GivesAs is_rules named bytes) result → IsGivenTo (GivesNamed name named bytes) result
of_name is_rules name named bytes result is given =
    subst (λ (rules : Bool). IsGivenTo (GivesAs rules named bytes) result) (sym is) given

pub loads : (Gives : Result GivenProgram ProgramFault → Type 0) (given : GivenProgram) (result : Result Program Halt) →
    Gives (Ok given) → IsLoaded (program_in given) result → LoadsGiven Gives result
loads Gives given (Ok program) gives loaded = (given, gives, loaded)
loads Gives given (Err halted) gives refused = inr (given, gives, refused)

-- ---- a script's load

pub not_given : (files : List ℕ → Option (List ℕ)) (name : List ℕ) (source : FileWord) (named : Option Table)
    (bytes : List ℕ) (fault : FileFault) (reason : Stop) → AreBytesIn files source bytes →
    IsFault file.Memory fault (given_program named bytes) → reason ≡ stop_of_file fault →
    (reason ≡ stop.Memory) ⊎ LoadFails files name source named reason
not_given files name source named bytes file.Memory reason are is same = inl same
not_given files name source named bytes fault reason are is same =
    inr (inr (inl (fault, (bytes, are, is (λ e. cc)), same)))

pub not_loaded : (files : List ℕ → Option (List ℕ)) (name : List ℕ) (source : FileWord) (named : Option Table)
    (bytes : List ℕ) (given : GivenProgram) (reason : Stop) → AreBytesIn files source bytes →
    given_program named bytes ≡ Ok given →
    (reason ≡ stop.Memory) ⊎ EndsFor (λ fault. LoadIs name (program_in given) (Err fault)) reason →
    (reason ≡ stop.Memory) ⊎ LoadFails files name source named reason
not_loaded files name source named bytes given reason are says (inl memory) = inl memory
not_loaded files name source named bytes given reason are says (inr ends) =
    inr (inr (inr (given, (bytes, are, says), ends)))
