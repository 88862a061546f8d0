-- Each stream of what is recorded of a switch is that of a right switch. Lists have the newest first.
use Rattle.std.proofs.Common.{◌≡◌, ℕ, Bool, true, false, not, ◌&&◌, List, [], ◌∷◌, length, map, refl, sym, ap, ◌∙◌, subst, arith, inl, inr}
use Rattle.std.proofs.lemmas.Bool.{and_parts, le-leb}
use Rattle.std.specs.Prelude.{IsTrue, Some, None, filter, nat_eq, nat_le, if◌then◌else◌}
use Rattle.std.specs.List.{AllByRecursion}
use Rattle.std.specs.Option.{ForSome}
use Rattle.afdx_frame.specs.Regulation.{is_bag, jitter_from_any}
use Rattle.afdx_frame.specs.declared.link.Side.{Side}
use Rattle.afdx_frame.proofs.ListLemmas.{AllByRecursion-slice_get}
use Rattle.afdx_config.specs.Lawful.{IsLawfulSwitch, IsLinkUpTo}
use Rattle.afdx_config.specs.Rows.{LinkRow, Rows}
use Rattle.afdx_input_lines.specs.declared.role.Role.TheVariants.{Came, Left}
use Rattle.afdx_input_lines.specs.declared.role.Role.{Role}
use Rattle.afdx_input_runs.specs.Joining.{Frame}
use Rattle.afdx_police.specs.Arrival.{Arrival, is_side, names, own}
use Rattle.afdx_police.specs.Shape.{fault_of}
use Rattle.afdx_police.proofs.ShapeLemmas.{faultless-is-sound}
use Rattle.afdx_police.specs.Verdicts.{accepted_arrivals}
use Rattle.afdx_law_bounds.specs.Outputs.{AreTimed}
use Rattle.afdx_law_bounds.specs.Tables.{rule_of, port_of, goes_to}
use Rattle.afdx_law_promises.specs.Lines.{Leaving}
use Rattle.afdx_conform.specs.Headline.{sound_of, GoByTime, AreTheirFrames}
use Rattle.afdx_conform.specs.Histories.{uncut}
use Rattle.afdx_conform.specs.LimitRanges.{most_bytes}
use Rattle.afdx_conform.specs.Right.{Asked, IsRight}
use Rattle.afdx_conform.specs.Streams.{Gone, Terms}
use Rattle.afdx_conform.proofs.CutLemmas.{right_cut}
use Rattle.afdx_conform.proofs.EveryLemmas.{every-on, every-unmap}
use Rattle.afdx_command_conform.specs.Choices.{Choices, is_behind, is_in_time, counts, counted}
use Rattle.afdx_command_conform.specs.Frames.{arrivals_of, frames_of, gone_of, left_at, strangers_of, is_stranger, terms_at}
use Rattle.afdx_command_conform.specs.RunLaws.{IsOfRight, AreOfRight}
use Rattle.afdx_command_conform.specs.Tapped.{Taps, of_tables, judged_to, is_damaged, is_of_came}
use Rattle.afdx_law_text.specs.Leaving.{LeavesAsPromised, LeaveAsPromised}
use Rattle.afdx_law_text.specs.Recorded.{AreRecorded, AreRecordsOf, AreSameArrivals, came_among, left_among}
use Rattle.afdx_law_text.proofs.AskedLemmas.{ask, asks}
use Rattle.afdx_law_text.proofs.FrameLemmas.{IsJudgedOf, judged-of, leaves_out, came-passed, left-passed, asks_of, came_of, arrivals-are, left_here, all_gone, frames-are, gone-are, left-descend, side-here, link-to-is, place-named-is, with-same, with_taps}
use Rattle.afdx_law_text.proofs.LeavingLemmas.{is_seen, stream-right}
use Rattle.afdx_law_text.proofs.ListLemmas.{filter-same, filter-map, filter-none, filter-keeps, filter-passes, both-hold, Descend, descend-filter, descend-map, bool-cases, and-false}
use Rattle.afdx_law_text.proofs.TimeLemmas.{accepted-shape, behind-end, frames-up, later-ends, own-go, short-frames, timed-go}
use Rattle.afdx_law_text.proofs.NumberLemmas.{numbered-as, same-accepted, same-frames, same-go, same-own}
use Rattle.afdx_law_text.proofs.PromisedLemmas.{stream-frames}
use Rattle.afdx_law_text.proofs.UndamagedLemmas.{all-undamaged, counted-none}

module _ (t : Rows) (base : Choices) (taps : Taps) (until : ℕ) (lawful : IsLawfulSwitch t) (original : List Arrival)
    (left : List Leaving) (promised : LeaveAsPromised t original left) (frames : List Frame)
    (recorded : AreRecorded taps original left frames) (ended : ForSome base.until (λ end. until ≡ end))
    (arrivals : List Arrival) (same : AreSameArrivals original arrivals) (go : GoByTime arrivals)
    (came : came_among frames ≡ filter (λ x. taps Came x.side x.port) arrivals) where
  abbrev c : Choices
  c = with_taps t taps base

  module _ (side : Side) (place port : ℕ) (l : LinkRow) (is : IsJudgedOf t taps side place port l) where
    abbrev z : Terms
    z = terms_at t c until l port

    abbrev ends : ℕ → Bool
    ends n = is_behind n c.until

    abbrev asks_it : Arrival → Bool
    asks_it x = asks_of t base taps lawful side place port l is x

    abbrev gone : List Gone
    gone = map gone_of (all_gone t base taps lawful side place port l is frames)

    bag-is : IsTrue (is_bag z.rule.bag_ms)
    unfolding rule_of
    bag-is = (AllByRecursion-slice_get (IsLinkUpTo jitter_from_any
        (length t.systems)) t.links place l lawful.links.each is.stands).bag_ms

    rule-port : (rule_of t l).port ≡ port_of t l.from
    unfolding rule_of
    rule-port = refl

    own-named : AllByRecursion (λ x. (is_side side x.side && names l.vl x.bytes) ≡ true) (own l.vl side arrivals)
    own-named = filter-passes (λ x. is_side side x.side && names l.vl x.bytes) arrivals

    -- ---- the link isn't left out
    module _ (stays : leaves_out c l.vl ≡ false) where
      one-harmless : (x : Arrival) → (is_side side x.side && names l.vl x.bytes) ≡ true
          → fault_of (Some z.rule) x.port x.bytes ≡ None → asks_it x ≡ true
      one-harmless x named sound =
          let parts = and_parts (is_side side x.side) (names l.vl x.bytes) named in
          let shape = (faultless-is-sound (rule_of t l) x.port x.bytes).0 sound in
          let there : side ≡ x.side = side-here side x.side parts.0 in
          let here : x.port ≡ port_of t l.from = sym shape.at_port ∙ rule-port in
          let longest = shape.longest in
          rw (
            came-passed t base taps lawful side place port l is x parts.1,
            stays,
            sym there,
            here,
            is.heard,
            le-leb (length x.bytes) most_bytes (omega (arith, longest)),
          ) refl

      harmless : (xs : List Arrival) → AllByRecursion (λ x. (is_side side x.side && names l.vl x.bytes) ≡ true) xs
          → AllByRecursion (λ x. fault_of (Some z.rule) x.port x.bytes ≡ None → asks_it x ≡ true) xs
      harmless [] all = tt
      harmless (x ∷ xs) all = (one-harmless x all.0, harmless xs all.1)

      frames-of : AreTheirFrames z (accepted_arrivals z.rule (own l.vl side arrivals)) gone
      frames-of =
          same-frames z (accepted_arrivals z.rule (own l.vl side original))
          (accepted_arrivals z.rule (own l.vl side arrivals)) gone
          (same-accepted z.rule (own l.vl side original) (own l.vl side arrivals)
          (same-own l.vl side original arrivals same))
          (stream-frames t lawful side port place l is.stands is.goes z refl refl refl original left gone promised
          (gone-are t base taps lawful side place port l is left frames recorded.left_are))

      gone-descend : Descend (λ (y : Gone). y.time) gone
      gone-descend =
          descend-map gone_of (λ (y : Gone). y.time) (all_gone t base taps lawful side place port l is frames)
          (descend-filter (λ (x : Arrival). x.time) (λ x. left_here t base taps lawful side place port l is x)
          (left_among frames)
          (left-descend frames recorded.by_time))

      right-all : IsRight z (asks z ends (later-ends c.until) asks_it (own l.vl side arrivals))
          (filter (is_seen z ends (later-ends c.until) (behind-end c.until until ended) asks_it) gone)
      right-all = stream-right z ends (later-ends c.until) (behind-end c.until until ended) asks_it
          (own l.vl side arrivals) gone bag-is
          (own-go (λ x. is_side side x.side && names l.vl x.bytes) arrivals go) gone-descend
          (harmless (own l.vl side arrivals) own-named) frames-of

      one-seen : (y : Arrival) → left_here t base taps lawful side place port l is y ≡ true
          → nat_le (length y.bytes) most_bytes ≡ true
          → counts t c (record { role = Left; arrival = y })
          ≡ is_seen z ends (later-ends c.until) (behind-end c.until until ended) asks_it (gone_of y)
      unfolding counts
      one-seen y here short =
          let parts = and_parts (is_side y.side side && nat_eq y.port port) (names l.vl y.bytes) here in
          let at = and_parts (is_side y.side side) (nat_eq y.port port) parts.0 in
          rw (left-passed t base taps lawful side place port l is y at.0 parts.1, stays, short)
          (and-true (is_in_time c (record { role = Left; arrival = y })))
        where
          and-true : (b : Bool) → (b && true && true) ≡ b
          and-true true = refl
          and-true false = refl

      all-seen : (ys : List Arrival)
          → AllByRecursion (λ y. (left_here t base taps lawful side place port l is y ≡ true)
          × (nat_le (length y.bytes) most_bytes ≡ true)) ys
          → AllByRecursion (λ y. counts t c (record { role = Left; arrival = y })
          ≡ is_seen z ends (later-ends c.until) (behind-end c.until until ended) asks_it (gone_of y)) ys
      all-seen [] all = tt
      all-seen (y ∷ ys) all = (one-seen y all.0.0 all.0.1, all-seen ys all.1)

      pub frames-seen : frames_of t c l.vl side port frames
          ≡ filter (is_seen z ends (later-ends c.until) (behind-end c.until until ended) asks_it) gone
      frames-seen =
          let ys = all_gone t base taps lawful side place port l is frames in
          let seen = is_seen z ends (later-ends c.until) (behind-end c.until until ended) asks_it in
          let short = every-unmap (λ (y : Gone). nat_le (length y.bytes) most_bytes ≡ true) gone_of ys
          (short-frames z (accepted_arrivals z.rule (own l.vl side arrivals)) gone
          (accepted-shape z.rule (own l.vl side arrivals)) frames-of) in
          frames-are t base taps lawful side place port l is frames
          ∙ ap (λ (l : List Arrival). map gone_of l)
          (filter-same (λ y. counts t c (record { role = Left; arrival = y })) (λ y. seen (gone_of y)) ys
          (all-seen ys (both-hold (λ y. left_here t base taps lawful side place port l is y ≡ true)
          (λ y. nat_le (length y.bytes) most_bytes ≡ true) ys
          (filter-passes (λ y. left_here t base taps lawful side place port l is y) (left_among frames)) short)))
          ∙ sym (filter-map seen gone_of ys)

      right-here : IsOfRight z (sound_of z.rule (arrivals_of t c l.vl side frames))
          (uncut z (frames_of t c l.vl side port frames))
      right-here = record {
        asked = asks z ends (later-ends c.until) asks_it (own l.vl side arrivals);
        arrivals = asked-arrivals (sound_of z.rule (filter (came_of t base taps lawful side place port l is)
            (own l.vl side arrivals)))
            ∙ ap (λ (xs : List Arrival). sound_of z.rule xs)
            (sym (arrivals-are t base taps lawful side place port l is arrivals frames came));
        is_right = subst (λ (ys : List Gone). IsRight z (asks z ends (later-ends c.until) asks_it
            (own l.vl side arrivals))
            (uncut z ys)) (sym frames-seen)
            (right_cut z (asks z ends (later-ends c.until) asks_it (own l.vl side arrivals))
            (filter (is_seen z ends (later-ends c.until) (behind-end c.until until ended) asks_it) gone)
            (frames-up (filter (is_seen z ends (later-ends c.until) (behind-end c.until until ended) asks_it) gone)
            (descend-filter (λ (y : Gone). y.time) (is_seen z ends (later-ends c.until)
            (behind-end c.until until ended) asks_it)
            gone gone-descend)) right-all);
      }
        where
          asked-arrivals : (xs : List Arrival) → map (λ (x : Asked). x.arrival) (map ask xs) ≡ xs
          asked-arrivals [] = refl
          asked-arrivals (x ∷ xs) = ap (λ (l : List Arrival). x ∷ l) (asked-arrivals xs)

    -- ---- the link is left out
    module _ (goes_out : leaves_out c l.vl ≡ true) where
      none-came : (xs : List Arrival) → AllByRecursion (λ x. (is_side side x.side && names l.vl x.bytes) ≡ true) xs
          → AllByRecursion (λ x. came_of t base taps lawful side place port l is x ≡ false) xs
      none-came [] all = tt
      none-came (x ∷ xs) all =
          let parts = and_parts (is_side side x.side) (names l.vl x.bytes) all.0 in (
            rw (came-passed t base taps lawful side place port l is x parts.1, goes_out)
                (ends-false (is_in_time c (record { role = Came; arrival = x })) (taps Came x.side x.port)),
            none-came xs all.1,
          )
        where
          ends-false : (a b : Bool) → (a && (b && false)) ≡ false
          ends-false true true = refl
          ends-false true false = refl
          ends-false false b = refl

      none-left : (ys : List Arrival)
          → AllByRecursion (λ y. left_here t base taps lawful side place port l is y ≡ true) ys
          → AllByRecursion (λ y. counts t c (record { role = Left; arrival = y }) ≡ false) ys
      unfolding counts
      none-left [] all = tt
      none-left (y ∷ ys) all =
          let parts = and_parts (is_side y.side side && nat_eq y.port port) (names l.vl y.bytes) all.0 in
          let at = and_parts (is_side y.side side) (nat_eq y.port port) parts.0 in (
            rw (left-passed t base taps lawful side place port l is y at.0 parts.1, goes_out)
                (ends-false (is_in_time c (record { role = Left; arrival = y })) (nat_le (length y.bytes) most_bytes)),
            none-left ys all.1,
          )
        where
          ends-false : (a b : Bool) → (a && false && b) ≡ false
          ends-false true b = refl
          ends-false false b = refl

      no-arrivals : arrivals_of t c l.vl side frames ≡ []
      no-arrivals = arrivals-are t base taps lawful side place port l is arrivals frames came
          ∙ filter-none (came_of t base taps lawful side place port l is) (own l.vl side arrivals)
          (none-came (own l.vl side arrivals) own-named)

      no-frames : frames_of t c l.vl side port frames ≡ []
      no-frames =
          let ys = all_gone t base taps lawful side place port l is frames in
          frames-are t base taps lawful side place port l is frames
          ∙ ap (λ (l : List Arrival). map gone_of l)
          (filter-none (λ y. counts t c (record { role = Left; arrival = y })) ys
          (none-left ys (filter-passes (λ y. left_here t base taps lawful side place port l is y) (left_among frames))))

      nothing-there : AreTheirFrames z (accepted_arrivals z.rule []) []
      unfolding AreTheirFrames accepted_arrivals
      nothing-there = tt

      nothing-goes : GoByTime []
      unfolding GoByTime
      nothing-goes = tt

      nothing-leaves : Descend (λ (y : Gone). y.time) []
      unfolding Descend
      nothing-leaves = tt

      nothing-right : IsRight z (asks z ends (later-ends c.until) asks_it []) []
      nothing-right = stream-right z ends (later-ends c.until) (behind-end c.until until ended) asks_it [] [] bag-is
          nothing-goes nothing-leaves tt nothing-there

      nothing-asked : map (λ (x : Asked). x.arrival) (asks z ends (later-ends c.until) asks_it []) ≡ sound_of z.rule []
      unfolding sound_of
      nothing-asked = refl

      right-none : IsOfRight z (sound_of z.rule (arrivals_of t c l.vl side frames))
          (uncut z (frames_of t c l.vl side port frames))
      right-none = record {
        asked = asks z ends (later-ends c.until) asks_it [];
        arrivals = nothing-asked ∙ ap (λ (xs : List Arrival). sound_of z.rule xs) (sym no-arrivals);
        is_right = subst (λ (ys : List Gone). IsRight z (asks z ends (later-ends c.until) asks_it []) (uncut z ys))
            (sym no-frames) nothing-right;
      }

  one-right : (side : Side) (place port : ℕ) (l : LinkRow) → judged_to t (of_tables t taps) side place port ≡ Some l
      → IsOfRight (terms_at t c until l port) (sound_of (rule_of t l) (arrivals_of t c l.vl side frames))
      (uncut (terms_at t c until l port) (frames_of t c l.vl side port frames))
  one-right side place port l h =
      let is = judged-of t taps side place port l h in
      elim (bool-cases (leaves_out c l.vl)) [
        | inl out ↦ right-none side place port l is out
        | inr stays ↦ right-here side place port l is stays
      ]

  -- ---- no frame is of no stream

  -- of one that left and counts
  abbrev IsOwn : Arrival → Type 0
  IsOwn y = counts t c (record { role = Left; arrival = y }) ≡ true → is_stranger t c.sight y ≡ false

  abbrev IsNotStrange : Side → ℕ → Frame → Type 0
  IsNotStrange side port x = (left_at side port x && is_stranger t c.sight x.arrival) ≡ false

  strange-none : (ds : List Leaving) (ys : List Arrival) → AllByRecursion (LeavesAsPromised t) ds
      → AllByRecursion (λ d. is_damaged d.frame.bytes ≡ false) ds → AreRecordsOf ds ys → AllByRecursion IsOwn ys
  unfolding AreRecordsOf
  strange-none [] [] all whole are = tt
  strange-none [] (y ∷ ys) all whole are = absurd are
  strange-none (d ∷ ds) [] all whole are = tt
  strange-none (d ∷ ds) (y ∷ ys) all whole are =
      let at = all.0 in
      let named : names at.link.vl y.bytes ≡ true = ap (λ (b : List ℕ). names at.link.vl b) are.0.bytes ∙ at.named in
      let goes : goes_to t at.link y.port ≡ true = ap (λ (n : ℕ). goes_to t at.link n) are.0.port ∙ at.goes in (
        counted-none t c y at.place at.link (place-named-is t lawful at.place at.link at.stands y.bytes named)
            (link-to-is t lawful at.place at.link at.stands y.port goes)
            (ap (λ (b : List ℕ). is_damaged b) are.0.bytes ∙ whole.0),
        strange-none ds ys all.1 whole.1 are.1,
      )

  strange-frames : (side : Side) (port : ℕ) (fs : List Frame)
      → AllByRecursion IsOwn (left_among fs)
      → AllByRecursion (λ x. counts t c x ≡ true → IsNotStrange side port x) fs
  unfolding left_at
  strange-frames side port [] all = tt
  strange-frames side port (x ∷ fs) all = by x.role x.arrival all (λ rest. strange-frames side port fs rest)
    where
      by : (role : Role) (a : Arrival)
          → AllByRecursion IsOwn
          (map (λ x. x.arrival) (if not (is_of_came role)
          then record { role = role; arrival = a } ∷ filter (λ x. not (is_of_came x.role)) fs
          else filter (λ x. not (is_of_came x.role)) fs))
          → (AllByRecursion IsOwn (left_among fs)
          → AllByRecursion (λ x. counts t c x ≡ true → IsNotStrange side port x) fs)
          → AllByRecursion (λ x. counts t c x ≡ true → IsNotStrange side port x)
          (record { role = role; arrival = a } ∷ fs)
      by Came a all later = (λ e. refl, later all)
      by Left a all later = (
        λ e. ap (λ b. is_side a.side side && nat_eq a.port port && b) (all.0 e)
            ∙ and-false (is_side a.side side && nat_eq a.port port),
        later all.1,
      )

  no-strangers : (side : Side) (port : ℕ) → strangers_of t c side port frames ≡ []
  no-strangers side port =
      ap (λ (fs : List Frame). map (λ x. x.arrival) fs)
      (filter-none (λ x. left_at side port x && is_stranger t c.sight x.arrival) (counted t c frames)
      (every-on (λ x. (counts t c x ≡ true → IsNotStrange side port x) × (counts t c x ≡ true)) (IsNotStrange side port)
      (λ x h. h.0 h.1) (counted t c frames)
      (both-hold (λ x. counts t c x ≡ true → IsNotStrange side port x) (λ x. counts t c x ≡ true) (counted t c frames)
      (filter-keeps (λ x. counts t c x ≡ true → IsNotStrange side port x) (counts t c) frames
      (strange-frames side port frames
      (strange-none (filter (λ d. taps Left d.side d.port) left) (left_among frames)
      (filter-keeps (LeavesAsPromised t) (λ d. taps Left d.side d.port) left promised.each)
      (filter-keeps (λ d. is_damaged d.frame.bytes ≡ false) (λ d. taps Left d.side d.port) left
      (all-undamaged t lawful original left promised)) recorded.left_are)))
      (filter-passes (counts t c) frames))))

  -- what is recorded is of a right switch
  all-right : AreOfRight t c until frames
  all-right = record {
    none_strange = λ side port below. no-strangers side port;
    streams = λ side place port l h. one-right side place port l h;
  }

pub are-right : (t : Rows) (c : Choices) (taps : Taps) (until : ℕ) → IsLawfulSwitch t → (arrivals : List Arrival)
    → AreTimed arrivals → (left : List Leaving) → LeaveAsPromised t arrivals left → (frames : List Frame)
    → c.sight ≡ of_tables t taps → AreRecorded taps arrivals left frames → ForSome c.until (λ end. until ≡ end)
    → AreOfRight t c until frames
are-right t c taps until lawful arrivals timed left promised frames sees recorded ended =
    let these = numbered-as (λ x. taps Came x.side x.port) (λ x y h. rw (h.side, h.port) refl) arrivals
    (came_among frames)
    recorded.came_are in
    subst (λ (k : Choices). AreOfRight t k until frames) (with-same t taps c sees)
    (all-right t c taps until lawful arrivals left promised frames recorded ended these.numbered these.same
    (same-go arrivals these.numbered these.same (timed-go arrivals timed)) these.kept)
