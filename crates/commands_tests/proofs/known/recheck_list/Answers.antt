use Rattle.std.proofs.Common.{sym, ap, ◌∙◌, inl, inr, subst, ◌≡◌, ◌≢◌, ℕ, List, Option, Some, codes}
use Rattle.std.proofs.{Math.Path.fun_ext, lemmas.Bool.cases_Bool, lemmas.Slice.Eq.bytes_eq-Decides}
use Rattle.std.specs.Str.{bytes_eq}
use Rattle.commands.specs.Rechecks.{RechecksAs}
use Rattle.commands_tests.specs.Shelves.{bytes_in, with_file}
use Rattle.commands_tests.proofs.known.recheck_list.Goals as goal

-- files that have these bytes under one name, and under each other name what they had
is_with_file : (name content : List ℕ) (before after : List ℕ → Option (List ℕ)) → after name ≡ Some content →
    ((other : List ℕ) → other ≢ name → after other ≡ before other) → (other : List ℕ) →
    after other ≡ with_file before name content other
is_with_file name content before after held kept other = elim (cases_Bool (bytes_eq name other)) [
  | inl same ↦ rw same (ap after (sym ((bytes_eq-Decides name other).0 same)) ∙ held)
  | inr apart ↦ rw apart (kept other (λ same. absurd (cc (apart, (bytes_eq-Decides name other).1 (sym same)))))
]

pub returns-in-Ok : goal.returns-in-Ok
returns-in-Ok c =
    subst (λ (files : List ℕ → Option (List ℕ)). RechecksAs files c.args.list.now c.recheck.result
    (Some c.args.host.now.stdout.items) (Some c.recheck.new.host.stdout.items))
    (fun_ext (is_with_file (codes "list") c.args.list.now (bytes_in c.args.host.now.files.files)
    (bytes_in c.write.new.self.files) c.in-Ok.ensures.held c.write.ensures.kept))
    (c.recheck.ensures.printed c.args.list.now c.in-Ok.ensures.held)
