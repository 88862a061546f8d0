use Rattle.std.proofs.Common.{rules, arith, refl, ap, sym, ◌∙◌, subst}
use Rattle.afdx_input_sources.specs.OrderedSource.{HasOrdered}
use Rattle.afdx_input_sources.proofs.StepLemmas.{drained, drained-fault, drains, drains-less, over-stage}
use Rattle.afdx_input_sources.proofs.StepLemmas.{same-settings}
use Rattle.afdx_input_sources.proofs.ordered.OrderedSourceNumber.next.Goals as goal

pub loop-self-preserved : goal.loop-self-preserved
loop-self-preserved g c =
    let no_more = c.read_one.ensures.no_more (search rules) in record {
      gave = λ start past h.
          c.read_one.ensures.none start past (c.loop-self.invariant.gave start past h) (search rules);
      settings = c.read_one.ensures.settings ∙ c.loop-self.invariant.settings;
      most = c.read_one.ensures.most ∙ c.loop-self.invariant.most;
      fewer = omega (arith, no_more, c.loop-self.invariant.fewer);
    }

pub returns-in-Given-clause-item : goal.returns-in-Given-clause-item
returns-in-Given-clause-item g c start past h ok =
    let given = c.read_one.ensures.given start past (c.loop-self.invariant.gave start past h) (search rules) in
    (given.0, given.1, tt)

pub returns-then-hand_on : goal.returns-then-hand_on
returns-then-hand_on g c =
    let S = g.S.Source in
    let hands = c.hand_on.ensures.first c.if-hand_on.true in
    let less = drains-less S.left_of c.loop-self.self c.hand_on.new.self c.in_default.not-Reading hands in record {
      item = λ start past h ok.
          let k = drains S.current S.Gave S.Ended S.Stopped start c.loop-self.self c.loop-self.input past
          (c.loop-self.invariant.gave start past h) c.hand_on.new.self c.in_default.not-Reading hands in
          (k.gave_them, k.follows, tt);
      end = λ start past h ok. absurd (cc);
      stop = λ start past h. tt;
      unwritten = refl;
      settings = same-settings _ _ _ _
          (ap (λ o. S.settings o.source) hands.new_is ∙ c.loop-self.invariant.settings)
          (ap (λ o. o.most) hands.new_is ∙ c.loop-self.invariant.most);
      less = λ ok. omega (arith, less, c.loop-self.invariant.fewer);
    }

pub returns-in-Stopped : goal.returns-in-Stopped
returns-in-Stopped g c =
    let S = g.S.Source in
    let none = c.hand_on.ensures.none c.if-hand_on.false in record {
      item = λ start past h ok. absurd (cc);
      end = λ start past h ok. absurd (cc);
      stop = λ start past h.
          let k = c.loop-self.invariant.gave start past h in
          drained-fault S.current S.Gave S.Ended S.Stopped start c.hand_on.new.self c.loop-self.input past
          (subst (λ o. HasOrdered S.Gave S.Ended S.Stopped start o c.loop-self.input past) (sym none.1) k)
          c.in-Stopped.fault c.in-Stopped.is (ap (λ o. o.held) none.1 ∙ none.0);
      unwritten = refl;
      settings = same-settings _ _ _ _
          (ap (λ o. S.settings o.source) none.1 ∙ c.loop-self.invariant.settings)
          (ap (λ o. o.most) none.1 ∙ c.loop-self.invariant.most);
      less = λ ok. absurd (cc);
    }

pub returns-in-Reading-stage : goal.returns-in-Reading-stage
returns-in-Reading-stage g c =
    let S = g.S.Source in
    let none = c.hand_on.ensures.none c.if-hand_on.false in record {
      item = λ start past h ok. absurd (cc);
      end = λ start past h ok.
          let k = c.loop-self.invariant.gave start past h in
          drained S.current S.Gave S.Ended S.Stopped start c.hand_on.new.self c.loop-self.input past
          (subst (λ o. HasOrdered S.Gave S.Ended S.Stopped start o c.loop-self.input past) (sym none.1) k)
          (over-stage c.hand_on.new.self.stage
          (λ e. c.in_default.not-Reading (ap (λ o. o.stage) (sym none.1) ∙ e)) c.in-Reading-stage.is)
          (ap (λ o. o.held) none.1 ∙ none.0);
      stop = λ start past h. tt;
      unwritten = refl;
      settings = same-settings _ _ _ _
          (ap (λ o. S.settings o.source) none.1 ∙ c.loop-self.invariant.settings)
          (ap (λ o. o.most) none.1 ∙ c.loop-self.invariant.most);
      less = λ ok. absurd (cc);
    }
