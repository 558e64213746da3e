-- What calls do with what the system gives them.
use Rattle.std.specs.Prelude.{◌≡◌, ℕ, List, Option, Some}
use Rattle.commands.specs.{declared.host.Host.Host, Files.KeepsAll}

-- all files have the bytes that they had, as `bytes` tells them, and standard input is as it was
pub record KeepsInputs {F I O E : Type 0} (bytes : F → List ℕ → Option (List ℕ)) (old new : Host F I O E) : Type 0 where
  pub files : KeepsAll (bytes old.files) (bytes new.files)
  pub stdin : new.stdin ≡ old.stdin

-- A call changes no file, and where the bytes of a file of this name are known, `Prints` holds of them and of what
-- standard output has before and after.
pub record PrintsOfFile {F I O E : Type 0} (bytes : F → List ℕ → Option (List ℕ)) (contents : O → Option (List ℕ))
    (old new : Host F I O E) (name : List ℕ) (Prints : List ℕ → (before after : Option (List ℕ)) → Type 0) : Type 0
  where
    pub kept : KeepsInputs bytes old new
    pub printed : (known : List ℕ) → bytes old.files name ≡ Some known →
        Prints known (contents old.stdout) (contents new.stdout)
