use Rattle.std.proofs.Common.{arith}
use Rattle.afdx_send.specs.Sender.{at}
use Rattle.afdx_send.proofs.DoneLemmas.{emitted_at}
use Rattle.afdx_send.proofs.StandLemmas.{later}
use Rattle.afdx_send.proofs.sender_state.SenderState.move_to.Goals as goal

pub advance-requires-clause-sound : goal.advance-requires-clause-sound
advance-requires-clause-sound c =
    let h = c.requires.sound.0 in let st = c.requires.sound.1 in (
      at h c.args.until,
      later c.args.self.now h c.args.until
          (let e = st.clock in let le = c.requires.clock in omega arith) st,
    )

pub returns-then-is_none-clause-stands : goal.returns-then-is_none-clause-stands
returns-then-is_none-clause-stands c =
    λ h st. c.advance.ensures.stands (at h c.args.until)
    (later c.args.self.now h c.args.until
    (let e = st.clock in let le = c.requires.clock in omega arith) st)

pub returns-else-is_none-clause-stands : goal.returns-else-is_none-clause-stands
returns-else-is_none-clause-stands c =
    λ h st. later c.args.self.now h c.args.until
    (let e = st.clock in let le = c.requires.clock in omega arith) st

pub returns-then-is_none-clause-done : goal.returns-then-is_none-clause-done
returns-then-is_none-clause-done c =
    λ h st late gone. emitted_at h c.args.until
    (c.advance.ensures.done (at h c.args.until)
    (later c.args.self.now h c.args.until
    (let e = st.clock in let le = c.requires.clock in omega arith) st) late gone)
