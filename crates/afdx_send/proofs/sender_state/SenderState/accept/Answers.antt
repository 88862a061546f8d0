use Rattle.std.proofs.Common.{arith, ap, ◌∙◌, subst, sym, ◌≡◌, ◌+◌, ◌-◌, length}
use Rattle.afdx_frame.specs.Sealing.{AreBytes}
use Rattle.afdx_frame.proofs.ListLemmas.{slice_get-one}
use Rattle.afdx_send.specs.declared.line.SystemLink.{SystemLink}
use Rattle.afdx_send.specs.Lines.{CanTake}
use Rattle.afdx_send.specs.Regulator.{submission_of}
use Rattle.afdx_send.specs.Releases.{Submission}
use Rattle.afdx_send.specs.Sender.{StandsFor, submission, with_submission}
use Rattle.afdx_send.proofs.AddLemmas.{refuses, admits, place_below, submission_is, can_take}
use Rattle.afdx_send.proofs.StandLemmas.{read_at}
use Rattle.afdx_send.proofs.sender_state.SenderState.accept.Goals as goal

pub index-requires : goal.index-requires
index-requires c =
    let w = c.args.self.now in let h = c.requires.sound.0 in let st = c.requires.sound.1 in
    let ok = w.lines.ok.0 in
    let below = place_below w h c.args.vl.0 c.in-Some.place st (c.in-Some.ensures h st) in
    omega (arith, below)

pub returns-in-Err-clause-refused : goal.returns-in-Err-clause-refused
returns-in-Err-clause-refused c = λ h st.
    let w = c.args.self.now in
    let p = c.in-Some.ensures h st in
    let has = read_at w.lines.items c.in-Some.place c.index.result.now
    (place_below w h c.args.vl.0 c.in-Some.place st p) c.index.ensures in
    refuses w h st c.in-Some.place c.args.vl.0 c.args.sub (length c.args.payload.now)
    c.index.result.now c.in-Err.fault c.requires.idle p has c.in-Err.ensures.err

pub returns-in_default-copy-clause-refused :
    goal.returns-in_default-copy-clause-refused
returns-in_default-copy-clause-refused c = λ h st.
    let w = c.args.self.now in
    let p = c.in-Some.ensures h st in
    let has = read_at w.lines.items c.in-Some.place c.index.result.now
    (place_below w h c.args.vl.0 c.in-Some.place st p) c.index.ensures in (
      c.in-Some.place,
      admits w h st c.in-Some.place c.args.vl.0 c.args.sub (length c.args.payload.now)
          c.index.result.now c.requires.idle p has c.in_default-check.ensures.ok,
    )

pub returns-in-Err-add-clause-refused :
    goal.returns-in-Err-add-clause-refused
returns-in-Err-add-clause-refused c = λ h st.
    let w = c.args.self.now in
    let p = c.in-Some.ensures h st in
    let has = read_at w.lines.items c.in-Some.place c.index.result.now
    (place_below w h c.args.vl.0 c.in-Some.place st p) c.index.ensures in (
      c.in-Some.place,
      admits w h st c.in-Some.place c.args.vl.0 c.args.sub (length c.args.payload.now)
          c.index.result.now c.requires.idle p has c.in_default-check.ensures.ok,
    )

pub add-requires-clause-place : goal.add-requires-clause-place
add-requires-clause-place c =
    let w = c.args.self.now in let h = c.requires.sound.0 in let st = c.requires.sound.1 in
    place_below w h c.args.vl.0 c.in-Some.place st (c.in-Some.ensures h st)

pub add-requires-clause-queue : goal.add-requires-clause-queue
add-requires-clause-queue c = λ line has.
    let w = c.args.self.now in let h = c.requires.sound.0 in let st = c.requires.sound.1 in
    let has' = read_at w.lines.items c.in-Some.place c.index.result.now
    (place_below w h c.args.vl.0 c.in-Some.place st (c.in-Some.ensures h st)) c.index.ensures in
    let same = slice_get-one w.lines.items c.in-Some.place c.index.result.now line has' has in
    let lets = c.in_default-check.ensures.ok in
    let from : c.from.result ≡ c.args.sub = c.from.ensures in
    let some = lets.is_sub.0 in
    let at : c.from.result - 1 + 1 ≡ c.args.sub = omega arith in
    let same_bytes : c.new-message.result.payload.items ≡ c.args.payload.now =
    ap (λ v. v.items) c.new-message.ensures.payload ∙ c.in-Ok.ensures.copied in
    let n : length c.new-message.result.payload.items ≡ length c.args.payload.now =
    ap (λ v. length v.items) c.new-message.ensures.payload ∙ ap length c.in-Ok.ensures.copied in
    subst (λ (z : SystemLink). CanTake z (c.from.result - 1) c.new-message.result) same
    (can_take c.index.result.now (c.from.result - 1) c.args.sub c.new-message.result
    (length c.args.payload.now) lets at n (omega (arith, c.new-message.ensures.udp))
    (subst AreBytes (sym same_bytes) (λ i. (c.type_inv.payload i).fits)))

pub returns-in-Ok-add-clause-ok : goal.returns-in-Ok-add-clause-ok
returns-in-Ok-add-clause-ok c = λ h st.
    let w = c.args.self.now in
    let p = c.in-Some.ensures h st in
    let has = read_at w.lines.items c.in-Some.place c.index.result.now
    (place_below w h c.args.vl.0 c.in-Some.place st p) c.index.ensures in
    let lets = c.in_default-check.ensures.ok in
    let from : c.from.result ≡ c.args.sub = c.from.ensures in
    let some = lets.is_sub.0 in
    let at : c.from.result - 1 + 1 ≡ c.args.sub = omega arith in
    let m : Submission = submission w.clock c.args.sub c.args.udp c.args.payload.now in
    let same : submission_of (c.from.result - 1 + 1) c.new-message.result ≡ m =
    submission_is c.new-message.result (c.from.result - 1) c.args.sub w.clock c.args.udp
    c.args.payload.now at
    c.new-message.ensures.time c.new-message.ensures.udp
    (ap (λ v. v.items) c.new-message.ensures.payload ∙ c.in-Ok.ensures.copied) in (
      c.in-Some.place,
      admits w h st c.in-Some.place c.args.vl.0 c.args.sub
          (length c.args.payload.now) c.index.result.now c.requires.idle p has lets,
      subst (λ (z : Submission). StandsFor c.add.new.self (with_submission h c.in-Some.place z))
          same (c.in-Ok-add.ensures.ok h st),
    )
