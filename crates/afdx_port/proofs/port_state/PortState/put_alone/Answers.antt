use Rattle.std.proofs.Common.{arith, sym, ap, ◌∙◌}
use Rattle.std.specs.Prelude.{Some}
use Rattle.afdx_port.specs.Held.{due_from}
use Rattle.afdx_port.proofs.DueLemmas.{clock_due}
use Rattle.afdx_port.proofs.PutLemmas.{has_room, pushed_sound, taken_puts, lost_puts}
use Rattle.afdx_port.proofs.AloneLemmas.{alone-advances, alone-class, alone-pushed, alone-quiet, due-given}
use Rattle.afdx_port.proofs.port_state.PortState.put_alone.Goals as goal

pub push-requires : goal.push-requires
push-requires g c =
    let a = alone-advances g.T.HasLength.facts c.args.self.now c.args.time c.requires.sound
    c.requires.clock c.requires.alone in
    has_room g.T.HasLength.facts (record c.args.self.now { clock = c.args.time }) c.args.priority
    c.length-length.result g.met.T.HasLength.lawful a.sound (omega arith)
    (let law = g.met.T.HasLength.lawful c.args.item in let e = c.length-length.ensures in omega (arith, law.least))

pub returns-clause-puts : goal.returns-clause-puts
returns-clause-puts g c =
    lost_puts g.T.HasLength.facts c.args.self.now (record c.args.self.now { clock = c.args.time }) c.args.time
    c.args.priority c.args.item
    (alone-advances g.T.HasLength.facts c.args.self.now c.args.time c.requires.sound c.requires.clock c.requires.alone)
    (alone-quiet g.T.HasLength.facts c.args.self.now c.args.time c.requires.alone)
    (let e = c.length-length.ensures in omega arith)

pub returns-clause-none : goal.returns-clause-none
returns-clause-none g c =
    clock_due g.T.HasLength.facts c.args.self.now c.args.time ∙ c.requires.alone

pub returns-then-self-length-clause-sound : goal.returns-then-self-length-clause-sound
returns-then-self-length-clause-sound g c =
    let a = alone-advances g.T.HasLength.facts c.args.self.now c.args.time c.requires.sound
    c.requires.clock c.requires.alone in
    pushed_sound g.T.HasLength.facts (record c.args.self.now { clock = c.args.time }) c.push.new.self
    c.args.time c.args.priority c.args.item c.length-length.result
    (record {
      lawful = g.met.T.HasLength.lawful;
      sound = a.sound;
      clock = a.clock;
      limit = c.requires.limit;
      fits = omega arith;
      queue = c.push.ensures.queue;
      changes = c.push.ensures.others;
      bytes = c.length-length.ensures;
    })

pub returns-then-self-length-clause-puts : goal.returns-then-self-length-clause-puts
returns-then-self-length-clause-puts g c =
    let a = alone-advances g.T.HasLength.facts c.args.self.now c.args.time c.requires.sound
    c.requires.clock c.requires.alone in
    taken_puts g.T.HasLength.facts c.args.self.now (record c.args.self.now { clock = c.args.time }) c.push.new.self
    c.args.time c.args.priority c.args.item c.length-length.result _ a
    (alone-quiet g.T.HasLength.facts c.args.self.now c.args.time c.requires.alone)
    (record {
      lawful = g.met.T.HasLength.lawful;
      sound = a.sound;
      clock = a.clock;
      limit = c.requires.limit;
      fits = omega arith;
      queue = c.push.ensures.queue;
      changes = c.push.ensures.others;
      bytes = c.length-length.ensures;
    })

pub returns-then-self-length-clause-due : goal.returns-then-self-length-clause-due
returns-then-self-length-clause-due g c =
    let a = alone-advances g.T.HasLength.facts c.args.self.now c.args.time c.requires.sound
    c.requires.clock c.requires.alone in
    alone-pushed g.T.HasLength.facts (record c.args.self.now { clock = c.args.time }) c.push.new.self
    c.args.time c.args.priority c.args.item c.length-length.result
    (record {
      lawful = g.met.T.HasLength.lawful;
      sound = a.sound;
      clock = a.clock;
      limit = c.requires.limit;
      fits = omega arith;
      queue = c.push.ensures.queue;
      changes = c.push.ensures.others;
      bytes = c.length-length.ensures;
    }) (clock_due g.T.HasLength.facts c.args.self.now c.args.time ∙ c.requires.alone)
    ∙ (ap (λ m. Some (due_from g.T.HasLength.facts c.args.self.now.byte_ns
    (record { time = c.args.time; item = c.args.item }) m)) (sym c.max.ensures)
    ∙ ap (λ d. Some d) (sym c.turn_of-due.ensures))

pub returns-then-self-length-clause-limit : goal.returns-then-self-length-clause-limit
returns-then-self-length-clause-limit g c =
    due-given g.T.HasLength.facts _ c.turn_of-due.result g.met.T.HasLength.lawful
    (returns-then-self-length-clause-sound g c) (returns-then-self-length-clause-due g c)

pub returns-then-self-length-clause-class : goal.returns-then-self-length-clause-class
returns-then-self-length-clause-class g c =
    let a = alone-advances g.T.HasLength.facts c.args.self.now c.args.time c.requires.sound
    c.requires.clock c.requires.alone in
    alone-class g.T.HasLength.facts (record c.args.self.now { clock = c.args.time }) c.push.new.self
    c.args.time c.args.priority c.args.item c.length-length.result
    (record {
      lawful = g.met.T.HasLength.lawful;
      sound = a.sound;
      clock = a.clock;
      limit = c.requires.limit;
      fits = omega arith;
      queue = c.push.ensures.queue;
      changes = c.push.ensures.others;
      bytes = c.length-length.ensures;
    }) (clock_due g.T.HasLength.facts c.args.self.now c.args.time ∙ c.requires.alone)
