use Rattle.commands.proofs.loading.read_bytes.Goals as goal

pub returns-in-Ok-clause-given : goal.returns-in-Ok-clause-given
returns-in-Ok-clause-given g c = λ bytes known.
    rw (c.in-Ok.ensures.read bytes known) at c.program_given.ensures
