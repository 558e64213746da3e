use Rattle.std.proofs.Common.{ap, inl, refl}
use Rattle.std.proofs.lemmas.Result.{err_from_is_err_and}
use Rattle.commands.specs.Sessions.{Running}
use Rattle.commands.proofs.GivenLaws.{not_loaded}
use Rattle.commands.proofs.session.Session.load_source.Goals as goal

pub returns-in_err-line : goal.returns-in_err-line
returns-in_err-line g c =
    let p = err_from_is_err_and c.from_residual-in_err-line.result c.from_residual-in_err-line.ensures.1 in
    let failed = c.in_err-line.ensures.failed in
    let why = not_loaded (g.F.Files.bytes c.args.files.now) c.args.name c.args.source c.args.named c.in_ok-bytes.bytes
    c.in_ok-given.given c.in_err-line.field-0.0 c.in_ok-bytes.ensures.read c.in_ok-given.ensures failed.1 in
    rw (p.1, p.2) (inl (ap (λ (s : Running). s.script) failed.0, (refl, why)))
