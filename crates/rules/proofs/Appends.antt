-- Texts in a row.
use Rattle.std.proofs.Common.{◌≡◌, ℕ, List, ◌++◌, append_assoc}

pub assoc3 : (a b c z : List ℕ) → (a ++ (b ++ c)) ++ z ≡ a ++ (b ++ (c ++ z))
assoc3 a b c z = simp append_assoc

pub assoc4 : (a b c d z : List ℕ) → (a ++ (b ++ (c ++ d))) ++ z ≡ a ++ (b ++ (c ++ (d ++ z)))
assoc4 a b c d z = simp append_assoc

pub assoc5 : (a b c d e z : List ℕ) → (a ++ (b ++ (c ++ (d ++ e)))) ++ z ≡ a ++ (b ++ (c ++ (d ++ (e ++ z))))
assoc5 a b c d e z = simp append_assoc

pub assoc6 : (a b c d e f z : List ℕ) →
    (a ++ (b ++ (c ++ (d ++ (e ++ f))))) ++ z ≡ a ++ (b ++ (c ++ (d ++ (e ++ (f ++ z)))))
assoc6 a b c d e f z = simp append_assoc

-- what was there, and what was added piece by piece
pub pushed4 : (o a b c d : List ℕ) → (((o ++ a) ++ b) ++ c) ++ d ≡ o ++ (a ++ (b ++ (c ++ d)))
pushed4 o a b c d = simp append_assoc

pub pushed6 : (o a b c d e f : List ℕ) →
    (((((o ++ a) ++ b) ++ c) ++ d) ++ e) ++ f ≡ o ++ (a ++ (b ++ (c ++ (d ++ (e ++ f)))))
pushed6 o a b c d e f = simp append_assoc
