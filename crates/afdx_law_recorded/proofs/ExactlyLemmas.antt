-- Of a source of which nothing is found, and no copy is cut off, the frames are a lawful stream.
use Rattle.std.proofs.Common.{◌≡◌, ◌⊎◌, inl, inr, ℕ, zero, suc, ◌+◌, ◌*◌, ◌-◌, ◌/◌, ◌<◌, ◌≤◌, true, List, []}
use Rattle.std.proofs.Common.{◌∷◌, sym, ap, ap₂, ◌∙◌, subst, arith, length, Some, None}
use Rattle.std.specs.Prelude.{option_map, Ok, slice_get}
use Rattle.std.proofs.Math.Nat.{mul-div_cancel_left}
use Rattle.std.proofs.lemmas.Bool.{cases_lt}
use Rattle.std.proofs.lemmas.List.{length-append}
use Rattle.std.proofs.lemmas.Option.{slice_get_within}
use Rattle.afdx_frame.specs.Carried.{carried_by}
use Rattle.afdx_frame.specs.Grammar.{Read}
use Rattle.afdx_frame.specs.Regulation.{bag, jitter}
use Rattle.afdx_frame.specs.Sealing.{AreBytes}
use Rattle.afdx_frame.specs.declared.link.Side.{Side}
use Rattle.afdx_frame.specs.declared.link.Side.TheVariants.{A, B}
use Rattle.afdx_frame.proofs.PartsLemmas.{frame_is_computed}
use Rattle.afdx_frame.proofs.ReadingLemmas.{reading_is_computed}
use Rattle.afdx_config.specs.Flows.{regulation_of_link}
use Rattle.afdx_config.specs.Numbers.{after_steps}
use Rattle.afdx_config.specs.Rows.{LinkRow, SystemRow}
use Rattle.afdx_config.specs.SentList as sent
use Rattle.afdx_conform.specs.Levels.{parts}
use Rattle.afdx_police.specs.Arrival.{names}
use Rattle.afdx_police.specs.Rule.{regulation_of}
use Rattle.afdx_lawful.specs.Alone.{number_in}
use Rattle.afdx_lawful.specs.Flaws.{address_of, flaw_of}
use Rattle.afdx_lawful.specs.Recorded.{AreSeenFrom, IsRecordedOn, IsSeenAt, IsSourceOf}
use Rattle.afdx_lawful.specs.RightTwice.{IsInRange, NothingIsFound}
use Rattle.afdx_lawful.specs.Sources.{Came, Source, apart, apart_by, on_side, slip}
use Rattle.afdx_lawful.specs.Partners.{other}
use Rattle.afdx_lawful.specs.TwoNetworks.{AreCopies, IsReadAs, SentTwice, frame_on, time_on}
use Rattle.afdx_lawful.proofs.CleanLemmas.{AreClean, all_clean}
use Rattle.afdx_lawful.proofs.DistanceLemmas.{same_long}
use Rattle.afdx_lawful.proofs.RecordedLemmas.{lawful_never_accused}
use Rattle.afdx_law_recorded.specs.Exactly.{AreAsFarApart, CutFoundExactly, FoundExactly, IsOfLawful, IsSeenExactly}
use Rattle.afdx_law_recorded.specs.Exactly.{LawfulShowsNothing}
use Rattle.afdx_law_recorded.specs.Pairs.{ArePair, IsQuietSource, NoneIsCut}
use Rattle.afdx_law_recorded.specs.Receivers.{messages_of}
use Rattle.afdx_law_recorded.proofs.MadeLemmas.{copy-of}
use Rattle.afdx_law_recorded.proofs.MessageLemmas.{IsGood, carry-one, good-at, good-on, message-at, same-carried}
use Rattle.afdx_law_recorded.proofs.PairLemmas.{AreLate, as-long, quiet_late, quiet_numbered, uncut_in_pairs}
use Rattle.afdx_law_recorded.proofs.PlaceLemmas.{newest-stands, older-stands, one-stands, further-pairs}
use Rattle.afdx_law_recorded.proofs.PlaceLemmas.{Stands, ahead-at, some-stands, spaced_on, stands-within, stands_at}
use Rattle.afdx_law_recorded.proofs.EntryLemmas.{are-copies, entries, entries-long, entry-at, other-frame, other-time, own-frame}
use Rattle.afdx_law_recorded.proofs.EntryLemmas.{own-time, side-is, twice-on}
use Rattle.afdx_law_recorded.proofs.FlawlessLemmas.{IsFlawless, all-flawless, all-named, flawless, link-of, numbered-at, on-at}

same_some : {X : Type 0} {x y : X} → Some x ≡ Some y → x ≡ y
same_some h = cc

-- ---- all of it

-- without drift copies may be as far apart by stamps as by their system's clock
exact-apart : (a d : ℕ) → d ≡ 0 → parts * a / (parts - d) ≡ a
exact-apart a d h = ap (λ (n : ℕ). parts * a / (parts - n)) h ∙ mul-div_cancel_left a {n = parts} (omega arith)

module _ (source : Source) (s : SystemRow) (l : LinkRow) (xs : List Came) (range : IsInRange source)
    (of : IsSourceOf s l source) (exactly : IsSeenExactly source xs) (found : NothingIsFound source xs) where
  quiet : IsQuietSource source xs
  quiet = record {
    paired = exactly.paired;
    start = exactly.start;
    named = exactly.named;
    by_time = exactly.by_time;
    coming = found.coming;
    single = found.single;
  }

  clean : AreClean source xs
  clean = all_clean source xs found.coming

  abbrev apart_of : ℕ → ℕ
  apart_of = apart_by source source.given

  apart-is : (x : Came) → apart source x ≡ apart_of (length x.bytes)
  apart-is x = exact-apart (apart_of (length x.bytes)) source.by.drift exactly.drift

  -- ---- one frame

  is-bytes : (side : Side) (k : ℕ) (y : Came) → stands_at (on_side side xs) k ≡ Some y → AreBytes y.bytes
  is-bytes side k y there = (on-at (λ x. AreBytes x.bytes) side xs exactly.bytes k y there).0

  of-side : (side : Side) (k : ℕ) (y : Came) → stands_at (on_side side xs) k ≡ Some y → y.side ≡ side
  of-side side k y there = (on-at (λ x. AreBytes x.bytes) side xs exactly.bytes k y there).1

  well : (side : Side) (k : ℕ) (y : Came) → stands_at (on_side side xs) k ≡ Some y → IsFlawless source y
  well side k y there =
      flawless source y (on-at (λ x. flaw_of source x ≡ None) side xs (all-flawless source xs clean) k y there).0

  is-named : (side : Side) (k : ℕ) (y : Came) → stands_at (on_side side xs) k ≡ Some y →
      names source.rule.vl y.bytes ≡ true
  is-named side k y there =
      (on-at (λ x. names source.rule.vl x.bytes ≡ true) side xs (all-named source xs exactly.named) k y there).0

  good-of : (side : Side) (k : ℕ) (y : Came) → stands_at (on_side side xs) k ≡ Some y → IsGood y
  good-of side k y there = good-at (on_side side xs) k y (good-on source side xs clean) there

  -- it is read as the message that it carries
  read-of : (side : Side) (k : ℕ) (y : Came) → stands_at (on_side side xs) k ≡ Some y → (m : sent.Message)
      (from_port : ℕ) →
      carried_by y.bytes ≡ Ok (record { from_port = from_port; to_port = m.udp; payload = m.payload }) →
      IsReadAs s l side (record { message = m; number = after_steps k 0 }) y.bytes
  unfolding number_in
  read-of side k y there m from_port carried =
      let w = well side k y there in
      let areb = is-bytes side k y there in
      let at = frame_is_computed.at_places y.bytes w.frame
      ((frame_is_computed.frame y.bytes w.frame areb).0 w.framed) in
      let read = reading_is_computed.computed y.bytes w.frame
      (record { from_port = from_port; to_port = m.udp; payload = m.payload }) areb w.framed carried in
      let link : w.frame.link.0 ≡ l.vl =
      link-of y.bytes w.frame source.rule.vl at.link (is-named side k y there) ∙ of.link in
      let number : w.frame.number ≡ after_steps k 0 =
      at.number ∙ numbered-at (on_side side xs) k y (quiet_numbered source xs side quiet) there in
      record {
        from_port = from_port;
        bytes = areb;
        reads = subst
            (λ (n : ℕ). Read y.bytes l.vl from_port m.udp m.payload n) number
            (subst (λ (v : ℕ). Read y.bytes v from_port m.udp m.payload w.frame.number) link read);
        address = w.address
            ∙ ap₂ (λ (i : ℕ) (t : Side). address_of i t) of.system (of-side side k y there);
        fits = (
          (let e = of.least in let le = w.least in omega (arith, e, le)),
          (let e = of.most in let le = w.most in omega (arith, e, le)),
        );
      }

  -- frames of a side keep their gaps
  spaced-by : (side : Side) (j d : ℕ) (y z : Came) → stands_at (on_side side xs) j ≡ Some y →
      stands_at (on_side side xs) (j + d) ≡ Some z →
      y.time + bag (regulation_of_link l) * d ≤ z.time + jitter (regulation_of_link l)
  spaced-by side j zero y z here later =
      let at : j + 0 ≡ j = omega arith in
      let same : y ≡ z =
      one-stands (on_side side xs) j y z here (ap (stands_at (on_side side xs)) (sym at) ∙ later) in
      let times = ap (λ (x : Came). x.time) same in
      omega (arith, times)
  spaced-by side j (suc d) y z here later =
      let gap = spaced_on source exactly.slack exactly.drift side xs clean exactly.by_time j d y z here later in
      let gaps : bag (regulation_of source.rule) * suc d ≡ bag (regulation_of_link l) * suc d =
      ap (λ (n : ℕ). 1000000 * n * suc d) of.bag in
      let shifts : jitter (regulation_of source.rule) ≡ jitter (regulation_of_link l) =
      ap (λ (n : ℕ). 1000 * n) of.jitter in
      omega (arith, gap, gaps, shifts)

  -- ---- one side has come as far as the other, or further

  module _ (far : Side)
      (pair : (k : ℕ) (x y : Came) → stands_at (on_side far xs) k ≡ Some x →
      stands_at (on_side (other far) xs) k ≡ Some y → ArePair source x y)
      (fewer : length (on_side (other far) xs) ≤ length (on_side far xs))
      (cut : (k : ℕ) (x : Came) → stands_at (on_side far xs) k ≡ Some x → length (on_side (other far) xs) ≤ k →
      source.until < x.time + apart_of (length x.bytes))
      (one-apart : (j k : ℕ) (y x : Came) → stands_at (on_side far xs) j ≡ Some y →
      stands_at (on_side far xs) k ≡ Some x → length (on_side (other far) xs) ≤ k →
      apart_of (length y.bytes) ≡ apart_of (length x.bytes)) where
    abbrev fs : List Came
    fs = on_side far xs

    abbrev os : List Came
    os = on_side (other far) xs

    abbrev messages : List sent.Message
    messages = messages_of fs

    -- what the stream has at a place
    record IsEntry (k : ℕ) (z : SentTwice) : Type 0 where
      it : Came
      there : stands_at fs k ≡ Some it
      message : sent.Message
      carried : slice_get messages k ≡ Some message
      own_time : time_on far z ≡ it.time
      own_frame : frame_on far z ≡ it.bytes
      own_read : IsReadAs s l far (record { message = message; number = after_steps k 0 }) (frame_on far z)
      other_read : IsReadAs s l (other far) (record { message = message; number = after_steps k 0 })
          (frame_on (other far) z)
      copies : AreCopies (apart_of (length z.a)) z
      copied : (y : Came) → stands_at os k ≡ Some y →
          (time_on (other far) z ≡ y.time) × (frame_on (other far) z ≡ y.bytes)
      made : length os ≤ k → time_on (other far) z ≡ it.time + apart_of (length it.bytes)

    -- its copy was recorded
    paired-entry : (k : ℕ) (x y : Came) → stands_at fs k ≡ Some x → stands_at os k ≡ Some y →
        IsEntry k (twice-on far x y.time y.bytes)
    paired-entry k x y here there =
        let m = message-at fs k x (good-on source far xs clean) here in
        let p = pair k x y here there in
        let gx = good-of far k x here in
        let gy = good-of (other far) k y there in
        let long : length y.bytes ≡ length x.bytes = same_long y.bytes x.bytes gy.least gx.least (sym p.same) in
        let by-x = apart-is x in
        let by-y : apart source y ≡ apart_of (length x.bytes) = apart-is y ∙ ap apart_of long in
        let slack = exactly.slack in
        record {
          it = x;
          there = here;
          message = m.message;
          carried = m.at_place;
          own_time = own-time far x y.time y.bytes;
          own_frame = own-frame far x y.time y.bytes;
          own_read = subst
              (λ (b : List ℕ). IsReadAs s l far (record { message = m.message; number = after_steps k 0 }) b)
              (sym (own-frame far x y.time y.bytes)) (read-of far k x here m.message m.from_port m.carried);
          other_read = subst
              (λ (b : List ℕ). IsReadAs s l (other far) (record { message = m.message; number = after_steps k 0 }) b)
              (sym (other-frame far x y.time y.bytes))
              (read-of (other far) k y there m.message m.from_port
              (sym (same-carried x.bytes y.bytes gx.least gy.least p.same) ∙ m.carried));
          copies = are-copies apart_of far x y.time y.bytes p.same long (omega (arith, p.x_soon, by-x, slack))
              (omega (arith, p.y_soon, by-y, slack));
          copied = λ z at.
              let same : y ≡ z = one-stands os k y z there at in (
                other-time far x y.time y.bytes ∙ ap (λ (w : Came). w.time) same,
                other-frame far x y.time y.bytes ∙ ap (λ (w : Came). w.bytes) same,
              );
          made = λ late. absurd (let less = stands-within os k y there in omega (arith, late, less));
        }

    -- its copy is made up, and sent as late as it may be
    made-entry : (k : ℕ) (x : Came) → stands_at fs k ≡ Some x → length os ≤ k → (z : SentTwice) × IsEntry k z
    made-entry k x here late =
        let m = message-at fs k x (good-on source far xs clean) here in
        let r = read-of far k x here m.message m.from_port m.carried in
        let c = copy-of s l far (other far) (record { message = m.message; number = after_steps k 0 }) x.bytes r in
        let time : ℕ = x.time + apart_of (length x.bytes) in (
          twice-on far x time c.copy,
          record {
            it = x;
            there = here;
            message = m.message;
            carried = m.at_place;
            own_time = own-time far x time c.copy;
            own_frame = own-frame far x time c.copy;
            own_read = subst
                (λ (b : List ℕ). IsReadAs s l far (record { message = m.message; number = after_steps k 0 }) b)
                (sym (own-frame far x time c.copy)) r;
            other_read = subst
                (λ (b : List ℕ). IsReadAs s l (other far)
                (record { message = m.message; number = after_steps k 0 }) b)
                (sym (other-frame far x time c.copy)) c.read;
            copies = are-copies apart_of far x time c.copy (sym c.same) c.long (omega arith) (omega arith);
            copied = λ y at. absurd (let less = stands-within os k y at in omega (arith, late, less));
            made = λ more. other-time far x time c.copy;
          },
        )

    entry : (k : ℕ) → k < length fs → (z : SentTwice) × IsEntry k z
    entry k less = by (some-stands fs k less) (cases_lt k (length os))
      where
        by : Stands fs k → (k < length os) ⊎ (length os ≤ k) → (z : SentTwice) × IsEntry k z
        by x (inl both) =
            let y = some-stands os k both in
            (twice-on far x.it y.it.time y.it.bytes, paired-entry k x.it y.it x.there y.there)
        by x (inr late) = made-entry k x.it x.there late

    no-entry : SentTwice
    no-entry = record { on_a = 0; on_b = 0; a = []; b = [] }

    pick : (k : ℕ) → (k < length fs) ⊎ (length fs ≤ k) → SentTwice
    pick k (inl less) = (entry k less).0
    pick k (inr more) = no-entry

    picked : (k : ℕ) (c : (k < length fs) ⊎ (length fs ≤ k)) → k < length fs → IsEntry k (pick k c)
    unfolding pick
    picked k (inl less) h = (entry k less).1
    picked k (inr more) h = absurd (omega (arith, more, h))

    at : ℕ → SentTwice
    at k = pick k (cases_lt k (length fs))

    stream : List SentTwice
    stream = entries at (length fs)

    stream-long : length stream ≡ length fs
    unfolding stream
    stream-long = entries-long at (length fs)

    -- what stands there is the entry of its place
    entry-of : (k : ℕ) (z : SentTwice) → slice_get stream k ≡ Some z → IsEntry k z
    unfolding stream at
    entry-of k z h =
        let within = slice_get_within (entries at (length fs)) k z h in
        let many = entries-long at (length fs) in
        let less : k < length fs = omega (arith, within, many) in
        let same : at k ≡ z = same_some (sym (entry-at at (length fs) k less) ∙ h) in
        subst (λ (y : SentTwice). IsEntry k y) same (picked k (cases_lt k (length fs)) less)

    stands-there : (k : ℕ) → k < length fs → slice_get stream k ≡ Some (at k)
    unfolding stream
    stands-there k less = entry-at at (length fs) k less

    -- ---- gaps

    spaced-far : (j d : ℕ) (y z : SentTwice) → IsEntry j y → IsEntry (j + d) z →
        time_on far y + bag (regulation_of_link l) * d ≤ time_on far z + jitter (regulation_of_link l)
    spaced-far j d y z e f =
        let gap = spaced-by far j d e.it f.it e.there f.there in omega (arith, gap, e.own_time, f.own_time)

    spaced-other : (j d : ℕ) (y z : SentTwice) → IsEntry j y → IsEntry (j + d) z →
        time_on (other far) y + bag (regulation_of_link l) * d
        ≤ time_on (other far) z + jitter (regulation_of_link l)
    spaced-other j d y z e f = by (cases_lt j (length os)) (cases_lt (j + d) (length os))
      where
        gap : e.it.time + bag (regulation_of_link l) * d ≤ f.it.time + jitter (regulation_of_link l)
        gap = spaced-by far j d e.it f.it e.there f.there

        by : (j < length os) ⊎ (length os ≤ j) → (j + d < length os) ⊎ (length os ≤ j + d) →
            time_on (other far) y + bag (regulation_of_link l) * d
            ≤ time_on (other far) z + jitter (regulation_of_link l)
        by (inl first) (inl second) =
            let v = some-stands os j first in
            let w = some-stands os (j + d) second in
            let own = spaced-by (other far) j d v.it w.it v.there w.there in
            omega (arith, own, (e.copied v.it v.there).0, (f.copied w.it w.there).0)
        by (inl first) (inr late) =
            let v = some-stands os j first in
            let p = pair j e.it v.it e.there v.there in
            let ge = good-of far j e.it e.there in
            let gv = good-of (other far) j v.it v.there in
            let long : length v.it.bytes ≡ length e.it.bytes =
            same_long v.it.bytes e.it.bytes gv.least ge.least (sym p.same) in
            let by-v : apart source v.it ≡ apart_of (length f.it.bytes) =
            apart-is v.it ∙ ap apart_of long ∙ one-apart j (j + d) e.it f.it e.there f.there late in
            let slack = exactly.slack in
            let g = gap in
            omega (arith, g, (e.copied v.it v.there).0, f.made late, p.y_soon, by-v, slack)
        by (inr late) (inl second) = absurd (omega (arith, late, second))
        by (inr late) (inr later) =
            let same = one-apart j (j + d) e.it f.it e.there f.there later in
            let g = gap in
            omega (arith, g, e.made late, f.made later, same)

    spaced : (side : Side) (j d : ℕ) (y z : SentTwice) → slice_get stream j ≡ Some y →
        slice_get stream (j + d) ≡ Some z →
        time_on side y + bag (regulation_of_link l) * d ≤ time_on side z + jitter (regulation_of_link l)
    spaced side j d y z here later = by (side-is side far)
      where
        by : (side ≡ far) ⊎ (side ≡ other far) →
            time_on side y + bag (regulation_of_link l) * d ≤ time_on side z + jitter (regulation_of_link l)
        by (inl e) =
            subst (λ (t : Side). time_on t y + bag (regulation_of_link l) * d
            ≤ time_on t z + jitter (regulation_of_link l)) (sym e)
            (spaced-far j d y z (entry-of j y here) (entry-of (j + d) z later))
        by (inr e) =
            subst (λ (t : Side). time_on t y + bag (regulation_of_link l) * d
            ≤ time_on t z + jitter (regulation_of_link l)) (sym e)
            (spaced-other j d y z (entry-of j y here) (entry-of (j + d) z later))

    -- ---- messages

    reads : (side : Side) (k : ℕ) (x : sent.Sent) (z : SentTwice) → sent.sent_at messages k ≡ Some x →
        slice_get stream k ≡ Some z → IsReadAs s l side x (frame_on side z)
    reads side k x z sent-is here =
        let e = entry-of k z here in
        let is : record { message = e.message; number = after_steps k 0 } ≡ x =
        same_some (sym (ap (option_map (λ (o : sent.Message). record { message = o; number = after_steps k 0 }))
        e.carried) ∙ sent-is) in
        subst (λ (o : sent.Sent). IsReadAs s l side o (frame_on side z)) is (by e (side-is side far))
      where
        by : (e : IsEntry k z) → (side ≡ far) ⊎ (side ≡ other far) →
            IsReadAs s l side (record { message = e.message; number = after_steps k 0 }) (frame_on side z)
        by e (inl h) =
            subst
            (λ (t : Side). IsReadAs s l t (record { message = e.message; number = after_steps k 0 }) (frame_on t z))
            (sym h) e.own_read
        by e (inr h) =
            subst
            (λ (t : Side). IsReadAs s l t (record { message = e.message; number = after_steps k 0 }) (frame_on t z))
            (sym h) e.other_read

    -- ---- which were recorded

    seen-from : (side : Side) (ys : List Came) →
        ((k : ℕ) (y : Came) → stands_at ys k ≡ Some y → IsSeenAt side stream k y) → AreSeenFrom side stream 0 ys
    seen-from side [] h = tt
    seen-from side (x ∷ past) h =
        let here : length past ≡ 0 + length past = omega arith in (
          subst (λ (k : ℕ). IsSeenAt side stream k x) here (h (length past) x (newest-stands x past)),
          seen-from side past (λ k y e. h k y (older-stands x past k (stands-within past k y e) ∙ e)),
        )

    seen-far : (k : ℕ) (f : Came) → stands_at fs k ≡ Some f → IsSeenAt far stream k f
    seen-far k f here =
        let e = entry-of k (at k) (stands-there k (stands-within fs k f here)) in
        let same : f ≡ e.it = one-stands fs k f e.it here e.there in
        record {
          sent = at k;
          there = stands-there k (stands-within fs k f here);
          seen = record {
            on = of-side far k f here;
            time = ap (λ (y : Came). y.time) same ∙ sym e.own_time;
            bytes = ap (λ (y : Came). y.bytes) same ∙ sym e.own_frame;
          };
        }

    seen-other : (k : ℕ) (f : Came) → stands_at os k ≡ Some f → IsSeenAt (other far) stream k f
    seen-other k f here =
        let within = stands-within os k f here in
        let less : k < length fs = omega (arith, within, fewer) in
        let e = entry-of k (at k) (stands-there k less) in
        record {
          sent = at k;
          there = stands-there k less;
          seen = record {
            on = of-side (other far) k f here;
            time = sym (e.copied f here).0;
            bytes = sym (e.copied f here).1;
          };
        }

    recorded-far : IsRecordedOn source stream xs far
    recorded-far =
        let many = stream-long in
        record {
          first = 0;
          within = omega (arith, many);
          seen = seen-from far fs seen-far;
          before = λ k y less here. absurd (omega (arith, less));
          behind = λ k y late here.
              absurd (let less = slice_get_within stream k y here in omega (arith, late, less, many));
        }

    recorded-other : IsRecordedOn source stream xs (other far)
    recorded-other =
        let many = stream-long in
        record {
          first = 0;
          within = omega (arith, many, fewer);
          seen = seen-from (other far) os seen-other;
          before = λ k y less here. absurd (omega (arith, less));
          behind = λ k y late here.
              let e = entry-of k y here in
              let beyond : length os ≤ k = omega (arith, late) in
              let end = cut k e.it e.there beyond in
              omega (arith, end, e.made beyond);
        }

    pub of-lawful : IsOfLawful source s l xs
    of-lawful = record {
      messages = messages;
      stream = stream;
      lawful = record {
        count = carry-one fs (good-on source far xs clean) ∙ sym stream-long;
        spaced = spaced;
        read = reads;
        copies = λ k y here. (entry-of k y here).copies;
      };
      recorded = λ side. by side (side-is side far);
    }
      where
        by : (side : Side) → (side ≡ far) ⊎ (side ≡ other far) → IsRecordedOn source stream xs side
        by side (inl e) = subst (IsRecordedOn source stream xs) (sym e) recorded-far
        by side (inr e) = subst (IsRecordedOn source stream xs) (sym e) recorded-other

  -- ---- as far as both have come

  pub further : AreLate source xs
  further = quiet_late source xs range.apart quiet

  fewer-there : length (on_side (other further.pairs.further) xs) ≤ length (on_side further.pairs.further xs)
  fewer-there =
      let p = further.pairs in
      let long = as-long source p.paired (on_side (other p.further) xs) p.pairs in
      let all = ap length p.splits ∙ length-append p.ahead p.paired in
      omega (arith, long, all)

  -- a frame that is ahead has a copy that may be behind the end
  cut-there : (k : ℕ) (x : Came) → stands_at (on_side further.pairs.further xs) k ≡ Some x →
      length (on_side (other further.pairs.further) xs) ≤ k → source.until < x.time + apart_of (length x.bytes)
  cut-there k x here late =
      let p = further.pairs in
      let long = as-long source p.paired (on_side (other p.further) xs) p.pairs in
      let end = ahead-at (λ y. source.until < y.time + apart source y + slip source) p.ahead p.paired further.late k x
      (ap (λ (ys : List Came). stands_at ys k) (sym p.splits) ∙ here) (omega (arith, late, long)) in
      let by = apart-is x in
      let slack = exactly.slack in
      omega (arith, end, by, slack)

  pub lawful-if : ((j k : ℕ) (y x : Came) → stands_at (on_side further.pairs.further xs) j ≡ Some y →
      stands_at (on_side further.pairs.further xs) k ≡ Some x →
      length (on_side (other further.pairs.further) xs) ≤ k →
      apart_of (length y.bytes) ≡ apart_of (length x.bytes)) → IsOfLawful source s l xs
  lawful-if one =
      of-lawful further.pairs.further
      (λ k x y here there. further-pairs source xs further.pairs k x y here there) fewer-there cut-there one

  pub lawful-uncut : NoneIsCut source xs → IsOfLawful source s l xs
  lawful-uncut uncut =
      lawful-if (λ j k y x here there late.
      let pairs = uncut_in_pairs source xs range.apart quiet uncut in
      let long = as-long source (on_side A xs) (on_side B xs) pairs in
      absurd (none-ahead further.pairs.further long k x there late))
    where
      none-ahead : (side : Side) → length (on_side A xs) ≡ length (on_side B xs) → (k : ℕ) (x : Came) →
          stands_at (on_side side xs) k ≡ Some x → length (on_side (other side) xs) ≤ k → ⊥
      none-ahead A long k x here late =
          let less = stands-within (on_side A xs) k x here in omega (arith, long, late, less)
      none-ahead B long k x here late =
          let less = stands-within (on_side B xs) k x here in omega (arith, long, late, less)

  pub lawful-alike : AreAsFarApart source → IsOfLawful source s l xs
  lawful-alike alike =
      lawful-if (λ j k y x here there late.
      let w = well further.pairs.further j y here in
      let v = well further.pairs.further k x there in
      alike (length y.bytes) (length x.bytes) (w.least, w.most) (v.least, v.most))

pub lawful_shows_nothing : LawfulShowsNothing
lawful_shows_nothing source s l xs range of up h =
    lawful_never_accused source s l (apart_by source source.given) h.messages h.stream xs range of
    (λ bytes. omega arith) h.lawful up h.recorded

pub found_exactly : FoundExactly
found_exactly source s l xs range of exactly uncut = (
  λ found. lawful-uncut source s l xs range of exactly found uncut,
  λ lawful. lawful_shows_nothing source s l xs range of exactly.by_time lawful,
)

pub cut_found_exactly : CutFoundExactly
cut_found_exactly source s l xs range of exactly alike = (
  λ found. lawful-alike source s l xs range of exactly found alike,
  λ lawful. lawful_shows_nothing source s l xs range of exactly.by_time lawful,
)
