-- What a source of numbers in order gives in one step, from the source that it reads.
use Rattle.std.proofs.Common.{◌≡◌, ◌≤◌, ◌<◌, ◌+◌, ℕ, List, [], ◌∷◌, ◌++◌, length, refl, ap, sym, ◌∙◌, subst, arith}
use Rattle.std.proofs.Common.{Some, None, Ok, true, false, inl, inr, ◌⊎◌}
use Rattle.afdx_input_lines.specs.declared.fault.RunFault.{RunFault}
use Rattle.afdx_input_lines.specs.declared.fault.RunFault.TheVariants as run
use Rattle.afdx_input_lines.specs.declared.recording_fault.RecordingFault.{RecordingFault}
use Rattle.afdx_input_sources.specs.Engine.{Item}
use Rattle.afdx_input_lines.specs.declared.next.Progress.TheVariants as progress
use Rattle.afdx_input_sources.specs.declared.number.AsRead.{AsRead}
use Rattle.afdx_input_sources.specs.declared.number.Number.{Number}
use Rattle.afdx_input_sources.specs.declared.ordered.Ordered.{Ordered}
use Rattle.afdx_input_sources.specs.declared.ordered.Stage.{Stage}
use Rattle.afdx_input_sources.specs.declared.ordered.Stage.TheVariants.{Reading, Over, Stopped}
use Rattle.afdx_input_sources.specs.NumberLines.{NumberFollows, ReadFollows}
use Rattle.afdx_input_sources.specs.OrderedSource.{AreForward, AreHeld, HasOrdered, HasOrderedAll, HasStoppedOrdering}
use Rattle.afdx_input_sources.specs.OrderedSource.{StandsAt, given_in_order}
use Rattle.afdx_input_sources.specs.OrderedSteps.{Exchanges, GoesBack, HandsOn, Holds, Passes, Stands, TakesIn}
use Rattle.afdx_input_sources.specs.OrderedSteps.{left_by, left_in_order, steps_by, steps_left}
use Rattle.afdx_input_sources.specs.Ordering.{goes_back, in_order, moment_of}
use Rattle.afdx_input_sources.specs.Sequences.{Numbers, latest_of, moment_or, number_read, numbers_read}
use Rattle.std.specs.List.Sorted.{IsPermutation}
use Rattle.afdx_input_sources.proofs.FallingLemmas.{permutes-length}
use Rattle.afdx_input_sources.proofs.OrderedLemmas.{back-told, exchange-held, follows-handed, give-left}
use Rattle.afdx_input_sources.proofs.OrderedLemmas.{hold-held, latest-next, left-at-end, more-forward, none-left, pass-held}
use Rattle.afdx_input_sources.proofs.OrderedLemmas.{skipped-forward, stand-held}
use Rattle.afdx_input_sources.proofs.HandingLemmas.{moment-none, moment-same}
use Rattle.std.proofs.Common.{take}

module _ {S I : Type 0} (current : S → Item AsRead) (gave ended : I → S → I → List (Item AsRead) → Type 0)
    (stopped : I → S → I → List (Item AsRead) → RunFault → Type 0) where
  abbrev Gave : I → Ordered S → I → Numbers → Type 0
  Gave = HasOrdered gave ended stopped

  abbrev Given : Ordered S → Item Number
  Given ordered = given_in_order current ordered

  -- the end isn't known, and these were read
  pub record IsReading (start : I) (ordered : Ordered S) (input : I) (past : Numbers) : Type 0 where
    pub read : List (Item AsRead)
    pub are_forward : AreForward ordered.most read
    pub latest : ordered.latest ≡ latest_of past
    pub gave_them : gave start ordered.source input read
    pub are_held : AreHeld ordered.most read ordered.held past

  pub is-reading : (start : I) (ordered : Ordered S) (input : I) (past : Numbers) → ordered.stage ≡ Reading
      → Gave start ordered input past → IsReading start ordered input past
  is-reading start ordered input past e h =
      let k : StandsAt gave ended stopped Reading ordered.most start ordered.source input h.read ordered.held past =
      subst (λ (s : Stage). StandsAt gave ended stopped s ordered.most start ordered.source input
      h.read ordered.held past)
      e h.stands in record {
        read = h.read;
        are_forward = h.are_forward;
        latest = h.latest;
        gave_them = k.0;
        are_held = k.1;
      }

  pub still-reading : (start : I) (ordered : Ordered S) (input : I) (past : Numbers) → ordered.stage ≡ Reading
      → IsReading start ordered input past → Gave start ordered input past
  still-reading start ordered input past e h = record {
    read = h.read;
    are_forward = h.are_forward;
    latest = h.latest;
    stands = subst (λ (s : Stage). StandsAt gave ended stopped s ordered.most start ordered.source input h.read
        ordered.held past) (sym e) (h.gave_them, h.are_held);
  }

  -- the number that is given may come behind those before it
  pub record GivesNext (start : I) (ordered : Ordered S) (input : I) (past : Numbers) : Type 0 where
    pub gave_them : Gave start ordered input (Given ordered ∷ past)
    pub follows : NumberFollows past (Given ordered)

  follows-held : (most : ℕ) (read : List (Item AsRead)) → AreForward most read → (held : List (Item Number))
      (past : Numbers) (y : Item Number) → AreHeld most read held (y ∷ past) → NumberFollows past y
  follows-held most read f held past y h =
      follows-handed most read f (take most (in_order (numbers_read read))) past y
      (ap (λ (xs : Numbers). take most (in_order (numbers_read read)) ++ xs) h.handed)

  -- ---- a number was read behind those

  module _ (start : I) (mid : Ordered S) (input : I) (past : Numbers) (reading : mid.stage ≡ Reading)
      (read : List (Item AsRead)) (f : AreForward mid.most read) (latest : mid.latest ≡ latest_of past)
      (h : AreHeld mid.most read mid.held past) (gave_one : gave start mid.source input (current mid.source ∷ read))
      (follows : ReadFollows read (current mid.source)) where
    abbrev X : Item AsRead
    X = current mid.source

    abbrev Forward-to : Type 0
    Forward-to = goes_back mid.most (number_read X) (numbers_read read) ≡ false

    -- it is skipped
    passes : (new : Ordered S) → Passes X mid new → GivesNext start new input past
    passes new p =
        let e = skipped-forward mid.most read X f follows p.skipped in
        let g = more-forward mid.most read X f follows e in
        let k = pass-held mid.most read X f follows mid.held past p.skipped h in
        subst (λ (o : Ordered S). GivesNext start o input past) (sym p.new_is) (record {
          gave_them = still-reading start (record mid { is_held = false }) input
              (number_read X ∷ past) reading (record {
                read = X ∷ read;
                are_forward = g;
                latest = latest ∙ sym (latest-next (number_read X) past
                    ∙ moment-none X.head.becomes (latest_of past) p.skipped);
                gave_them = gave_one;
                are_held = k;
              });
          follows = follows-held mid.most (X ∷ read) g mid.held past (number_read X) k;
        })

    -- it stands
    stands : (new : Ordered S) → Stands X mid new → GivesNext start new input past
    stands new p =
        let a = p.in_time.arrives in
        let e : Forward-to = back-told mid.most read X f follows mid.latest past false a latest
        h.handed p.in_time.forward in
        let g = more-forward mid.most read X f follows e in
        let k = stand-held mid.most read X f follows mid.held past p.none a e h in
        subst (λ (o : Ordered S). GivesNext start o input past) (sym p.new_is) (record {
          gave_them = still-reading start _ input (number_read X ∷ past) reading (record {
            read = X ∷ read;
            are_forward = g;
            latest = moment-same X.head.becomes 0 (latest_of past) a ∙ sym (latest-next (number_read X) past);
            gave_them = gave_one;
            are_held = k;
          });
          follows = follows-held mid.most (X ∷ read) g mid.held past (number_read X) k;
        })

    -- it is held, and another is handed on
    exchanges : (new : Ordered S) → Exchanges X mid new → GivesNext start new input past
    exchanges new p =
        let a = p.like.in_time.arrives in
        let e : Forward-to = back-told mid.most read X f follows mid.latest past false a latest h.handed
        p.like.in_time.forward in
        let g = more-forward mid.most read X f follows e in
        let y = p.hands.first in
        let k = exchange-held mid.most read X f follows mid.held p.held new.held past y a e p.like.are_held p.full
        p.hands.comes p.hands.are_held h in
        subst (λ (o : Ordered S). GivesNext start o input past) (sym p.hands.new_is) (record {
          gave_them = still-reading start _ input (y ∷ past) reading (record {
            read = X ∷ read;
            are_forward = g;
            latest = ap (λ (n : ℕ). moment_or y.head n) latest ∙ sym (latest-next y past);
            gave_them = gave_one;
            are_held = k;
          });
          follows = follows-held mid.most (X ∷ read) g new.held past y k;
        })

    pub took-one : (new : Ordered S) → TakesIn X mid new (Ok progress.Given) → GivesNext start new input past
    took-one new (inl p) = passes new p
    took-one new (inr (inl p)) = stands new p
    took-one new (inr (inr p)) = exchanges new p

    -- it is held, and there is room
    holds : (new : Ordered S) → Holds X mid new → Gave start new input past
    holds new p =
        let a = p.like.in_time.arrives in
        let e : Forward-to = back-told mid.most read X f follows mid.latest past false a latest h.handed
        p.like.in_time.forward in
        subst (λ (o : Ordered S). Gave start o input past) (sym p.new_is)
        (still-reading start (record mid { held = p.held; last = None }) input past reading (record {
          read = X ∷ read;
          are_forward = more-forward mid.most read X f follows e;
          latest = latest;
          gave_them = gave_one;
          are_held = hold-held mid.most read X f follows mid.held p.held past a p.like.are_held p.room h;
        }))

    -- it goes back
    goes : (new : Ordered S) → GoesBack X mid new → Gave start new input past
    goes new p =
        let e = back-told mid.most read X f follows mid.latest past true p.arrives latest h.handed p.back in
        subst (λ (o : Ordered S). Gave start o input past) (sym p.new_is) (record {
          read = read;
          are_forward = f;
          latest = latest;
          stands = (inr (X, gave_one, e, refl), left-at-end mid.most read mid.held past h);
        })

    pub took-none : (new : Ordered S) → TakesIn X mid new (Ok progress.NotYet) → Gave start new input past
    took-none new (inl p) = holds new p
    took-none new (inr p) = goes new p

  -- ---- or none

  module _ (start : I) (mid : Ordered S) (input : I) (past : Numbers) (read : List (Item AsRead))
      (f : AreForward mid.most read) (latest : mid.latest ≡ latest_of past)
      (h : AreHeld mid.most read mid.held past) where
    -- all was read
    pub ends : ended start mid.source input read → Gave start (record mid { stage = Over }) input past
    ends e = record {
      read = read;
      are_forward = f;
      latest = latest;
      stands = (e, left-at-end mid.most read mid.held past h);
    }

    -- or a fault stands behind it
    pub stops : (fault : RecordingFault) → stopped start mid.source input read (run.Recording fault)
        → Gave start (record mid { stage = Stopped fault }) input past
    stops fault e = record {
      read = read;
      are_forward = f;
      latest = latest;
      stands = (inl e, left-at-end mid.most read mid.held past h);
    }

  -- ---- the end is known

  module _ (start : I) (old : Ordered S) (input : I) (past : Numbers) (g : Gave start old input past) where
    -- the first that is held is handed on
    pub drains : (new : Ordered S) → (old.stage ≡ Reading → ⊥) → HandsOn old new → GivesNext start new input past
    drains new known p = by old.stage refl
      where
        by : (s : Stage) → old.stage ≡ s → GivesNext start new input past
        by Reading e = absurd (known e)
        by Over e =
            let k = subst (λ (s : Stage). StandsAt gave ended stopped s old.most start old.source
            input g.read old.held past)
            e g.stands in
            let l = give-left old.most g.read g.are_forward old.held new.held past p.first p.comes p.are_held k.1 in
            subst (λ (o : Ordered S). GivesNext start o input past) (sym p.new_is) (record {
              gave_them = record {
                read = g.read;
                are_forward = g.are_forward;
                latest = ap (λ (n : ℕ). moment_or p.first.head n) g.latest ∙ sym (latest-next p.first past);
                stands = subst (λ (s : Stage). StandsAt gave ended stopped s old.most start old.source input g.read
                    new.held (p.first ∷ past)) (sym e) (k.0, l.left);
              };
              follows = l.follows;
            })
        by (Stopped fault) e =
            let k = subst (λ (s : Stage). StandsAt gave ended stopped s old.most start old.source
            input g.read old.held past)
            e g.stands in
            let l = give-left old.most g.read g.are_forward old.held new.held past p.first p.comes p.are_held k.1 in
            subst (λ (o : Ordered S). GivesNext start o input past) (sym p.new_is) (record {
              gave_them = record {
                read = g.read;
                are_forward = g.are_forward;
                latest = ap (λ (n : ℕ). moment_or p.first.head n) g.latest ∙ sym (latest-next p.first past);
                stands = subst (λ (s : Stage). StandsAt gave ended stopped s old.most start old.source input g.read
                    new.held (p.first ∷ past)) (sym e) (k.0, l.left);
              };
              follows = l.follows;
            })

    -- none is held any more
    pub drained : old.stage ≡ Over → old.held ≡ [] → HasOrderedAll gave ended stopped start old input past
    drained e none =
        let k = subst (λ (s : Stage). StandsAt gave ended stopped s old.most start old.source input
        g.read old.held past)
        e g.stands in record {
          read = g.read;
          are_forward = g.are_forward;
          ended_so = k.0;
          all = none-left old.most g.read g.are_forward old.held past none k.1;
        }

    pub drained-fault : (fault : RecordingFault) → old.stage ≡ Stopped fault → old.held ≡ []
        → HasStoppedOrdering gave ended stopped start old input past (run.Recording fault)
    drained-fault fault e none =
        let k = subst (λ (s : Stage). StandsAt gave ended stopped s old.most start old.source input
        g.read old.held past)
        e g.stands in inl (record {
          read = g.read;
          are_forward = g.are_forward;
          why = fault;
          fault_is = refl;
          stops = k.0;
          all = none-left old.most g.read g.are_forward old.held past none k.1;
        })

-- ---- how many steps are left, and how much can be given

module _ {S : Type 0} (left_of : S → ℕ) (old : Ordered S) (s : S) (reading : old.stage ≡ Reading)
    (less : left_of s < left_of old.source) (x : Item AsRead) (new : Ordered S) where
  abbrev Mid : Ordered S
  Mid = record old { source = s }

  -- of the source that is read now
  left-is : left_in_order left_of old ≡ left_of old.source + length old.held
  left-is = ap (λ (t : Stage). left_by t (left_of old.source) (length old.held)) reading

  steps-is : steps_left left_of old ≡ left_of old.source + 1
  steps-is = ap (λ (t : Stage). steps_by t (left_of old.source)) reading

  left-of : (o : Ordered S) → o.stage ≡ Reading → o.source ≡ s
      → left_in_order left_of o ≡ left_of s + length o.held
  left-of o e f =
      ap (λ (t : Stage). left_by t (left_of o.source) (length o.held)) e
      ∙ ap (λ (t : S). left_of t + length o.held) f

  held-more : (held : List (Item Number)) → IsPermutation (number_read x ∷ old.held) held
      → length held ≡ length old.held + 1
  held-more held p = let n = permutes-length (number_read x ∷ old.held) held p in omega (arith, n)

  abbrev IsLess : Ordered S → Type 0
  IsLess o = left_in_order left_of o < left_in_order left_of old

  pub took-less : TakesIn x Mid new (Ok progress.Given) → IsLess new
  took-less (inl p) =
      let k = left-of (record Mid { is_held = false }) reading refl in
      subst IsLess (sym p.new_is) (omega (arith, k, left-is, less))
  took-less (inr (inl p)) =
      let o = record Mid { is_held = false; latest = moment_of (number_read x) } in
      let k = left-of o reading refl in subst IsLess (sym p.new_is) (omega (arith, k, left-is, less))
  took-less (inr (inr p)) =
      let o = record Mid {
        held = new.held;
        last = Some p.hands.first;
        is_held = true;
        latest = moment_or p.hands.first.head old.latest;
      } in
      let k = left-of o reading refl in
      let n = held-more p.held p.like.are_held in
      let m = permutes-length p.held (p.hands.first ∷ new.held) p.hands.are_held in
      subst IsLess (sym p.hands.new_is) (omega (arith, k, left-is, less, n, m))

  pub took-no-more : TakesIn x Mid new (Ok progress.NotYet) → left_in_order left_of new ≤ left_in_order left_of old
  took-no-more (inl p) =
      let k = left-of (record Mid { held = p.held; last = None }) reading refl in
      let n = held-more p.held p.like.are_held in
      subst (λ (o : Ordered S). left_in_order left_of o ≤ left_in_order left_of old) (sym p.new_is)
      (omega (arith, k, left-is, less, n))
  took-no-more (inr p) =
      subst (λ (o : Ordered S). left_in_order left_of o ≤ left_in_order left_of old) (sym p.new_is)
      (omega (arith, left-is))

  pub took-step : TakesIn x Mid new (Ok progress.NotYet) → steps_left left_of new < steps_left left_of old
  took-step (inl p) =
      let k : steps_left left_of (record Mid { held = p.held; last = None }) ≡ left_of s + 1 =
      ap (λ (t : Stage). steps_by t (left_of s)) reading in
      subst (λ (o : Ordered S). steps_left left_of o < steps_left left_of old) (sym p.new_is)
      (omega (arith, k, steps-is, less))
  took-step (inr p) =
      subst (λ (o : Ordered S). steps_left left_of o < steps_left left_of old) (sym p.new_is)
      (omega (arith, steps-is))

-- the end is known, and one is handed on
pub drains-less : {S : Type 0} (left_of : S → ℕ) (old new : Ordered S) → (old.stage ≡ Reading → ⊥) → HandsOn old new
    → left_in_order left_of new < left_in_order left_of old
drains-less {S} left_of old new known p =
    subst (λ (o : Ordered S). left_in_order left_of o < left_in_order left_of old) (sym p.new_is) (by old.stage refl)
  where
    fewer : length new.held < length old.held
    fewer = let n = permutes-length old.held (p.first ∷ new.held) p.are_held in omega (arith, n)

    by : (t : Stage) → old.stage ≡ t → left_by old.stage (left_of old.source) (length new.held)
        < left_by old.stage (left_of old.source) (length old.held)
    by Reading e = absurd (known e)
    by Over e = rw e fewer
    by (Stopped fault) e = rw e fewer

-- at its end a source has no more than what is held
pub ends-less : {S : Type 0} (left_of : S → ℕ) (old : Ordered S) → old.stage ≡ Reading
    → length old.held ≤ left_in_order left_of old
ends-less left_of old reading =
    let e = ap (λ (t : Stage). left_by t (left_of old.source) (length old.held)) reading in omega (arith, e)

-- what it works by is the same
pub same-settings : {A B : Type 0} (a a' : A) (b b' : B) → a ≡ a' → b ≡ b' → ◌≡◌ {A = A × B} (a, b) (a', b')
same-settings a a' b b' e f = rw (e, f) refl

-- it isn't reading, so it is at its end
pub over-stage : (s : Stage) → (s ≡ Reading → ⊥) → (s ≡ Reading) ⊎ (s ≡ Over) → s ≡ Over
over-stage s known (inl e) = absurd (known e)
over-stage s known (inr e) = e
