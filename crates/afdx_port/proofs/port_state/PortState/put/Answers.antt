use Rattle.std.proofs.Common.{arith, ◌∙◌}
use Rattle.afdx_port.proofs.PutLemmas.{has_room, pushed_sound, pushed_due, taken_puts, lost_puts}
use Rattle.afdx_port.proofs.port_state.PortState.put.Goals as goal

pub push-requires : goal.push-requires
push-requires g c = has_room g.T.HasLength.facts c.advance.new.self c.args.priority
    c.length-length.result g.met.T.HasLength.lawful c.advance.ensures.sound (omega arith)
    (let law = g.met.T.HasLength.lawful c.args.item in let e = c.length-length.ensures in omega (arith, law.least))

pub returns-then-self-length-clause-puts : goal.returns-then-self-length-clause-puts
returns-then-self-length-clause-puts g c =
    lost_puts g.T.HasLength.facts c.args.self.now c.advance.new.self c.args.time c.args.priority c.args.item
    (record {
      sound = c.advance.ensures.sound;
      clock = c.advance.ensures.clock;
      stands = c.advance.ensures.stands;
      chosen = c.advance.ensures.chosen;
      due = c.advance.ensures.due;
      held = c.advance.ensures.held;
    }) c.requires.quiet (let e = c.length-length.ensures in omega arith)

pub returns-clause-sound : goal.returns-clause-sound
returns-clause-sound g c = pushed_sound g.T.HasLength.facts c.advance.new.self c.push.new.self
    c.args.time c.args.priority c.args.item c.length-length.result
    (record {
      lawful = g.met.T.HasLength.lawful;
      sound = c.advance.ensures.sound;
      clock = c.advance.ensures.clock;
      limit = c.requires.limit;
      fits = omega arith;
      queue = c.push.ensures.queue;
      changes = c.push.ensures.others;
      bytes = c.length-length.ensures;
    })

pub returns-clause-puts : goal.returns-clause-puts
returns-clause-puts g c =
    taken_puts g.T.HasLength.facts c.args.self.now c.advance.new.self c.push.new.self
    c.args.time c.args.priority c.args.item c.length-length.result _
    (record {
      sound = c.advance.ensures.sound;
      clock = c.advance.ensures.clock;
      stands = c.advance.ensures.stands;
      chosen = c.advance.ensures.chosen;
      due = c.advance.ensures.due;
      held = c.advance.ensures.held;
    }) c.requires.quiet
    (record {
      lawful = g.met.T.HasLength.lawful;
      sound = c.advance.ensures.sound;
      clock = c.advance.ensures.clock;
      limit = c.requires.limit;
      fits = omega arith;
      queue = c.push.ensures.queue;
      changes = c.push.ensures.others;
      bytes = c.length-length.ensures;
    })

pub returns-clause-due : goal.returns-clause-due
returns-clause-due g c = λ busy. pushed_due g.T.HasLength.facts c.advance.new.self c.push.new.self
    c.args.time c.args.priority c.args.item c.length-length.result
    (record {
      lawful = g.met.T.HasLength.lawful;
      sound = c.advance.ensures.sound;
      clock = c.advance.ensures.clock;
      limit = c.requires.limit;
      fits = omega arith;
      queue = c.push.ensures.queue;
      changes = c.push.ensures.others;
      bytes = c.length-length.ensures;
    }) busy ∙ c.advance.ensures.due
