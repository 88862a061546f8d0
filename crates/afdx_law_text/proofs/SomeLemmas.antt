-- Where nothing is passed over and a frame left, one is explained. Lists have the newest first.
use Rattle.std.proofs.Common.{◌≡◌, ℕ, ◌+◌, ◌<◌, ◌≤◌, Bool, true, false, not, List, [], ◌∷◌, length, map, refl, sym, ap, ◌∙◌, subst, arith}
use Rattle.std.proofs.lemmas.Bool.{le-leb, le-ltb, eq-eqb}
use Rattle.std.specs.Prelude.{Option, Some, filter, nat_le}
use Rattle.std.specs.List.{AllByRecursion, list_any}
use Rattle.std.specs.Option.{ForSome}
use Rattle.afdx_config.specs.Lawful.{IsLawfulSwitch}
use Rattle.afdx_config.specs.Rows.{Rows}
use Rattle.afdx_frame.specs.declared.link.VlId.{VlId}
use Rattle.afdx_input_lines.specs.declared.role.Role.TheVariants.{Came}
use Rattle.afdx_input_runs.specs.Joining.{Frame}
use Rattle.afdx_police.specs.Arrival.{Arrival}
use Rattle.afdx_law_bounds.specs.Outputs.{AreTimed}
use Rattle.afdx_switch.proofs.ArrivalLemmas.{same-side}
use Rattle.afdx_law_promises.specs.Lines.{Leaving, is_leaving}
use Rattle.afdx_conform.specs.Explanations.{from_time}
use Rattle.afdx_conform.specs.Leeway.{reach}
use Rattle.afdx_conform.specs.Histories.{uncut}
use Rattle.afdx_conform.specs.Streams.{Gone, Terms}
use Rattle.afdx_conform.proofs.EveryLemmas.{every-map}
use Rattle.afdx_command_conform.specs.Choices.{Choices, is_behind, is_same_link, latest_of, until_or}
use Rattle.afdx_command_conform.specs.Frames.{frames_of, gone_of, terms_at}
use Rattle.afdx_command_conform.specs.RunLaws.{AreByTime}
use Rattle.afdx_command_conform.specs.Sight.{Sight}
use Rattle.afdx_command_conform.specs.Tapped.{Taps, all_taps, is_of_came, of_tables}
use Rattle.afdx_command_conform.specs.VerdictLaws.{SomeLeft}
use Rattle.afdx_law_text.specs.Laws.{IsPlain}
use Rattle.afdx_law_text.specs.Leaving.{LeavesAsPromised, LeaveAsPromised}
use Rattle.afdx_law_text.specs.Recorded.{AreRecorded, came_among, left_among}
use Rattle.afdx_law_text.proofs.FrameLemmas.{IsJudgedOf, all_gone, asks_of, frames-descend, gone-are, left_here, leaves_out, to-judged, with-same, with_taps}
use Rattle.afdx_law_text.proofs.LeavingLemmas.{is_seen}
use Rattle.afdx_law_text.proofs.ListLemmas.{Descend, filter-keeps, filter-whole}
use Rattle.afdx_law_text.proofs.NumberLemmas.{numbered-as, same-go}
use Rattle.afdx_law_text.proofs.PromisedLemmas.{AreGone}
use Rattle.afdx_law_text.proofs.StreamLemmas.{frames-seen}
use Rattle.afdx_law_text.proofs.TimeLemmas.{behind-end, later-ends, timed-go}

-- as many frames as are told of
as-many : (ds : List Leaving) (ys : List Gone) → AreGone ds ys → length ys ≡ length ds
unfolding AreGone
as-many [] [] are = refl
as-many [] (y ∷ ys) are = absurd are
as-many (d ∷ ds) [] are = absurd are
as-many (d ∷ ds) (y ∷ ys) are = let rest = as-many ds ys are.2 in omega (arith, rest)

-- no frame is later than the latest
at-most-latest : (frames : List Frame) → AreByTime frames
    → AllByRecursion (λ x. x.arrival.time ≤ latest_of frames) frames
unfolding Descend
at-most-latest [] h = tt
at-most-latest (x ∷ frames) h = let order = frames-descend (x ∷ frames) h in (omega arith, order.0)

none-in : (vl : ℕ) (links : List (Option VlId)) → links ≡ []
    → list_any (λ link. is_same_link link (Some (record { 0 = vl }))) links ≡ false
none-in vl links e = ap (λ (l : List (Option VlId)). list_any
    (λ link. is_same_link link (Some (record { 0 = vl }))) l) e

module _ (t : Rows) (base : Choices) (taps : Taps) (lawful : IsLawfulSwitch t) (arrivals : List Arrival)
    (timed : AreTimed arrivals) (d : Leaving) (more : List Leaving)
    (promised : LeaveAsPromised t arrivals (d ∷ more)) (frames : List Frame) (sees : base.sight ≡ of_tables t taps)
    (recorded : AreRecorded taps arrivals (d ∷ more) frames) (plain : IsPlain t base) where
  abbrev c : Choices
  c = with_taps t taps base

  one : LeavesAsPromised t d
  one = promised.each.0

  -- it is seen as if all ports were recorded
  all-tapped : of_tables t taps ≡ of_tables t all_taps
  all-tapped = sym sees ∙ plain.sight

  is : IsJudgedOf t taps d.side one.place d.port one.link
  is = record {
    stands = one.stands;
    goes = one.goes;
    heard = ap (λ (o : Sight). o.is_heard d.side one.link) all-tapped;
    seen = ap (λ (o : Sight). o.is_seen d.side d.port) all-tapped;
  }

  ended : ForSome c.until (λ end. latest_of frames ≡ end)
  ended end e = absurd (let none = plain.until in cc (none, e))

  none-out : leaves_out c one.link.vl ≡ false
  none-out = none-in one.link.vl c.left_out plain.left_out

  abbrev z : Terms
  z = terms_at t c (latest_of frames) one.link d.port

  abbrev gone : List Gone
  gone = map gone_of (all_gone t base taps lawful d.side one.place d.port one.link is frames)

  abbrev seen : Gone → Bool
  seen y = is_seen z (λ n. is_behind n c.until) (later-ends c.until) (behind-end c.until (latest_of frames) ended)
      (λ x. asks_of t base taps lawful d.side one.place d.port one.link is x) y

  all-seen : (ys : List Gone) → AllByRecursion (λ y. seen y ≡ true) ys
  all-seen [] = tt
  all-seen (y ∷ ys) =
      let start : from_time z.by.start ≡ 0 = ap from_time plain.exact.start in (
        rw (
          le-ltb (y.time + reach z.by) (from_time z.by.start)
              (omega (arith, start)),
          plain.until,
        ) refl,
        all-seen ys,
      )

  gone-known : AllByRecursion (λ (y : Gone). y.time ≤ latest_of frames) gone
  gone-known =
      every-map (λ (y : Gone). y.time ≤ latest_of frames) gone_of
      (all_gone t base taps lawful d.side one.place d.port one.link is frames)
      (filter-keeps (λ (y : Arrival). y.time ≤ latest_of frames)
      (λ y. left_here t base taps lawful d.side one.place d.port one.link is y) (left_among frames)
      (every-map (λ (y : Arrival). y.time ≤ latest_of frames) (λ (x : Frame). x.arrival)
      (filter (λ x. not (is_of_came x.role)) frames)
      (filter-keeps (λ (x : Frame). x.arrival.time ≤ latest_of frames) (λ x. not (is_of_came x.role)) frames
      (at-most-latest frames recorded.by_time))))

  none-cut : (ys : List Gone) → AllByRecursion (λ y. y.time ≤ latest_of frames) ys
      → AllByRecursion (λ y. nat_le (y.time + reach z.by) z.until ≡ true) ys
  none-cut [] all = tt
  none-cut (y ∷ ys) all =
      let exact = plain.exact.slack in
      let together = plain.exact.between in
      let at = all.0 in
      (le-leb (y.time + reach z.by) z.until (omega (arith, exact, together, at)), none-cut ys all.1)

  uncut-all : uncut z (frames_of t c one.link.vl d.side d.port frames) ≡ gone
  uncut-all =
      let these = numbered-as (λ x. taps Came x.side x.port) (λ x y h. rw (h.side, h.port) refl) arrivals
      (came_among frames)
      recorded.came_are in
      ap (uncut z) (frames-seen t base taps (latest_of frames) lawful arrivals
      (d ∷ more) promised frames recorded ended these.numbered
      these.same
      (same-go arrivals these.numbered these.same
      (timed-go arrivals timed)) these.kept d.side one.place d.port one.link is
      none-out
      ∙ filter-whole seen gone (all-seen gone))
      ∙ filter-whole (λ y. nat_le (y.time + reach z.by) z.until) gone (none-cut gone gone-known)

  one-told : is_leaving one.link.vl d.side d.port d ≡ true
  one-told = rw (same-side d.side, eq-eqb d.port d.port refl) one.named

  some-told : 0 < length (filter (is_leaving one.link.vl d.side d.port) (d ∷ more))
  some-told = rw one-told (omega arith)

  some-gone : 0 < length gone
  some-gone =
      let many = as-many (filter (is_leaving one.link.vl d.side d.port) (d ∷ more)) gone
      (gone-are t base taps lawful d.side one.place d.port one.link is (d ∷ more) frames recorded.left_are) in
      let some = some-told in
      omega (arith, many, some)

  some-left : SomeLeft (t, c) frames
  some-left = record {
    side = d.side;
    place = one.place;
    port = d.port;
    link = one.link;
    judged = to-judged t taps d.side one.place d.port one.link is.stands is.goes is.heard is.seen;
    some = subst (λ (n : ℕ). 0 < length (uncut (terms_at t c n one.link d.port)
        (frames_of t c one.link.vl d.side d.port frames))) (sym (ap (λ (o : Option ℕ). until_or o frames) plain.until))
        (subst (λ (ys : List Gone). 0 < length ys) (sym uncut-all) some-gone);
  }

  pub some-here : SomeLeft (t, base) frames
  some-here = subst (λ (k : Choices). SomeLeft (t, k) frames) (with-same t taps base sees) some-left
