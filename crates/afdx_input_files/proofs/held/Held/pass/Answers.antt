use Rattle.std.proofs.Common.{arith}
use Rattle.afdx_input_lines.proofs.ReaderLemmas.{rest_between}
use Rattle.afdx_input_files.specs.Holding.{unread, lent}
use Rattle.afdx_input_files.proofs.HeldLemmas.{unread_length, part_between}
use Rattle.afdx_input_files.proofs.held.Held.pass.Goals as goal

pub overflow_add-self : goal.overflow_add-self
overflow_add-self c = omega (
  arith,
  unread_length c.args.self.now,
  c.args.self.now.ordered,
  c.args.self.now.within,
  c.requires.held,
  c.requires.within,
  c.requires.ordered,
  c.args.self.now.chunk.ok.0,
)

pub overflow_add-self-2 : goal.overflow_add-self-2
overflow_add-self-2 c = omega (
  arith,
  unread_length c.args.self.now,
  c.args.self.now.ordered,
  c.args.self.now.within,
  c.requires.held,
  c.requires.within,
  c.args.self.now.chunk.ok.0,
)

pub overflow_add-self-3 : goal.overflow_add-self-3
overflow_add-self-3 c = omega (
  arith,
  unread_length c.args.self.now,
  c.args.self.now.ordered,
  c.args.self.now.within,
  c.requires.held,
  c.args.self.now.chunk.ok.0,
)

pub invariant_of-self : goal.invariant_of-self
invariant_of-self c =
    let size = unread_length c.args.self.now in record {
      lent_ordered = omega (arith, c.requires.ordered);
      lent_within = omega (arith, size, c.requires.within, c.requires.held, c.args.self.now.within);
      ordered = omega (arith, size, c.requires.held);
      within = c.args.self.now.within;
      some = c.args.self.now.some;
    }

pub returns-clause-unread : goal.returns-clause-unread
unfolding unread
returns-clause-unread c = let size = unread_length c.args.self.now in
    rest_between c.args.self.now.chunk.items c.args.self.now.start c.args.self.now.end c.args.n
    (omega (arith, size, c.requires.held))

pub returns-clause-lent : goal.returns-clause-lent
unfolding unread lent
returns-clause-lent c = let size = unread_length c.args.self.now in
    part_between c.args.self.now.chunk.items c.args.self.now.start c.args.self.now.end c.args.from c.args.to
    c.requires.ordered (omega (arith, size, c.requires.held, c.requires.within))
