use Rattle.std.proofs.Common.{rules, ◌≡◌, ◌+◌, ◌++◌, [], ◌∷◌, ℤ, ap, sym, ◌∙◌}
use Rattle.std.specs.Int.{w16}
use Rattle.std.proofs.lemmas.Int.{to_z-of_z}
use Rattle.rules_compiler.specs.Pieces.{word_store, words_code}
use Rattle.rules_compiler.proofs.Words.{words_more}
use Rattle.rules_compiler.proofs.pieces.put_text.Goals as goal

pub loop-k-preserved : goal.loop-k-preserved
loop-k-preserved c =
    let start = to_z-of_z w16 c.args.start c.ranges.start in
    let so_far : c.loop-k.code.items ≡ c.args.code.now.items ++ words_code c.args.start c.args.text.now c.loop-k.k =
    c.loop-k.invariant ∙ ap (λ (z : ℤ). c.args.code.now.items ++ words_code z c.args.text.now c.loop-k.k) start in
    let pushed : c.push.new.self.items ≡ c.loop-k.code.items ++ word_store c.args.start c.args.text.now c.loop-k.k ∷ [] =
    first_of (cc (c.in_ok-push.ensures.items, c.word_store.ensures), search rules) in
    words_more c.args.code.now.items c.loop-k.code.items c.push.new.self.items c.args.start c.args.text.now c.loop-k.k
    so_far pushed
    ∙ sym (ap (λ (z : ℤ). c.args.code.now.items ++ words_code z c.args.text.now (c.loop-k.k + 1)) start)
