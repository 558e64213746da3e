use Rattle.std.proofs.Common.{◌≡◌, ◌++◌, ◌∷◌, [], ℕ, List, Some, slice_get, length, sym, ap, subst, ◌∙◌, arith}
use Rattle.std.proofs.lemmas.List.{length_push}
use Rattle.report.specs.Holdings.{Held, IsHolding}
use Rattle.report.proofs.PlaceLaws.{each_pushed}
use Rattle.report.proofs.holding.Holdings.of.Goals as goal

pub loop-input-preserved : goal.loop-input-preserved
loop-input-preserved g c =
    let xs : List Held = c.loop-input.list.items in let x : Held = c.in_ok-of.field-0 in let output =
    c.args.book.now.output in let outputs = g.Id.Names.outputs in
    let longer : c.push.new.self.items ≡ xs ++ x ∷ [] = c.in_ok-push.ensures.items in
    let at : x.done.partition ≡ length xs = c.in_ok-of.ensures.partition_is ∙ sym c.loop-input.invariant.0 in (
      omega (arith, ap (λ (hs : List Held). length hs) longer, length_push xs x, c.loop-input.invariant.0),
      subst (λ (hs : List Held). (input : ℕ) (h : Held) → slice_get hs input ≡ Some h →
          IsHolding outputs output input h) (sym longer)
          (each_pushed (λ (k : ℕ) (h : Held). IsHolding outputs output k h) xs x c.loop-input.invariant.1
          (c.in_ok-of.ensures.output_is, at, c.in_ok-of.ensures.is_held)),
    )
