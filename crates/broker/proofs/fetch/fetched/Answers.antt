use Rattle.broker.proofs.fetch.fetched.Goals as goal

pub returns-in-Ok-clause-ok : goal.returns-in-Ok-clause-ok
returns-in-Ok-clause-ok g c = record {
  there = c.requires;
  content = c.args.book.now;
  output_is = cc (c.output.ensures.output);
  is_book = c.in-Ok.ensures.book;
  fetched = c.in-Ok.ensures.fetched;
}
