-- Bounds on the bytes that wait and on the ends of turns, from the busy time back from a moment.
use Rattle.std.proofs.Common.{◌≡◌, ℕ, ◌+◌, ◌*◌, ◌-◌, ◌≤◌, ◌==◌, true, false, List, [], ◌∷◌, ◌++◌}
use Rattle.std.proofs.Common.{length, Some, refl, sym, ap, subst, arith, ◌∙◌, suc, zero}
use Rattle.std.specs.List.{slice_get, AllByRecursion}
use Rattle.std.proofs.Math.Nat.{mul-le-mul_left}
use Rattle.std.proofs.lemmas.Option.{slice_get_within}
use Rattle.afdx_frame.specs.declared.link.Priority.TheVariants.{High, Low}
use Rattle.afdx_frame.specs.Regulation.{byte_units}
use Rattle.afdx_frame.proofs.ListLemmas.{slice_get-push_before, slice_get-push_last}
use Rattle.afdx_port.specs.Schedule.{Entry, Turn, has_turn, end_of, IsWithoutTurn, IsNext, AreTurns}
use Rattle.afdx_port.specs.Schedule.{bytes_without_turn, waiting_bytes}
use Rattle.afdx_port.specs.ScheduleOf.{AreInOrder}
use Rattle.afdx_law_bounds.specs.CurveLaws.{WaitingIsBounded, HighIsBounded, LowIsBounded}
use Rattle.afdx_law_bounds.specs.Curve.{Curve, KeepsCurve, wire_in, wire_between, left_over}
use Rattle.afdx_law_bounds.proofs.RateLemmas.{few, soon-high, soon-low}
use Rattle.afdx_law_bounds.proofs.WorkLemmas.{or-false, served, both_classes, one_class, bytes_weigh}
use Rattle.afdx_law_bounds.proofs.WorkLemmas.{between_push, wire_full, wire_later}
use Rattle.afdx_law_bounds.proofs.BusyLemmas.{counts-is, counts-not, is-counted, Weighs, lasts-of, pause, busy_at}
use Rattle.afdx_law_bounds.proofs.BegunLemmas.{both_full, begun_at, each_turn}
use Rattle.afdx_law_bounds.proofs.ListLemmas.{get_all, all_get}

module _ {X : Type 0} where
  pub few_wait : WaitingIsBounded X
  few_wait byte_ns high low entries turns new some rates order highs lows schedule =
      let come : (i : ℕ) (e : Entry X) → slice_get entries i ≡ Some e → e.time ≤ new.time
      = λ i e g. order i (length entries) e new
      (let within = slice_get_within entries i e g in omega arith) (slice_get-push_before entries new i e g)
      (slice_get-push_last entries new) in
      let weight : Entry X → ℕ = λ e. wire_in High 0 new.time e + wire_in Low 0 new.time e in
      let full : (i : ℕ) (e : Entry X) → slice_get entries i ≡ Some e → weight e ≡ e.bytes + 20
      = λ i e g. both_full 0 new.time new.time e (omega arith) (λ c. come i e g) (λ c. come i e g) in
      let b = begun_at byte_ns entries turns new.time schedule.each_next
      (λ idle place e free. absurd
      (let has = schedule.all_have_turns place (slice_get_within entries place e free.stands) in
      cc (has, free.without))) in
      let weighs = each_turn (Weighs weight true 0) byte_ns entries b.begun
      (λ i e g. record { full = λ c. full i e g; small = λ c. absurd (cc c) }) b.are in
      let line = busy_at byte_ns weight true 0 entries b.begun new.time b.are weighs b.left in
      let begins : line.since ≤ new.time = line.begins new.time (λ idle. omega arith) b.started in
      let came = both_classes weight line.earlier line.since new.time new.time 0 entries
      (λ i e g free. let own : IsWithoutTurn entries line.earlier i e = record {
        stands = g;
        without = subst (λ (n : ℕ). has_turn line.earlier n ≡ false) (omega arith) free;
      } in
      let from : line.since ≤ e.time = line.come i e own refl in
      let here = wire_later High line.since new.time e (λ c. from) in
      let there = wire_later Low line.since new.time e (λ c. from) in
      omega (arith, here, there)) in
      let own : wire_in High line.since new.time new + wire_in Low line.since new.time new
      ≡ new.bytes + 20 = both_full line.since new.time new.time new begins (λ c. omega arith) (λ c. omega arith) in
      let high-push = between_push High line.since new.time entries new in
      let low-push = between_push Low line.since new.time entries new in
      let high-curve = highs line.since new.time begins in
      let low-curve = lows line.since new.time begins in
      let waits : waiting_bytes entries turns new.time ≡ bytes_without_turn b.begun 0 entries =
      ap (λ zs. bytes_without_turn zs 0 entries) b.is in
      let weigh = bytes_weigh weight b.begun 0 entries (λ i e g. let f = full i e g in omega (arith, f)) in
      let total : left_over weight line.earlier 0 entries + new.bytes
      ≤ wire_between High line.since new.time (entries ++ new ∷ []) + wire_between Low line.since
      new.time (entries ++ new ∷ [])
      = omega (arith, came, own, high-push, low-push) in
      let r = few byte_ns high.burst high.rate low.burst low.rate (new.time - line.since)
      (left_over weight b.begun 0 entries) new.bytes
      (left_over weight line.earlier 0 entries)
      (wire_between High line.since new.time (entries ++ new ∷ []))
      (wire_between Low line.since new.time (entries ++ new ∷ [])) some rates high-curve low-curve total
      (omega (arith, line.balance, begins)) in
      omega (arith, r, waits, weigh)

  -- a turn of the list, and those before it
  pub record Stands (byte_ns : ℕ) (entries : List (Entry X)) (s : Turn X) : Type 0 where
    pub earlier : List (Turn X)
    pub next : IsNext byte_ns entries earlier s
    pub are : AreTurns byte_ns entries earlier

  pub turn_at : (byte_ns : ℕ) (entries : List (Entry X)) (turns : List (Turn X)) (i : ℕ) (s : Turn X) →
      AreTurns byte_ns entries turns → slice_get turns i ≡ Some s → Stands byte_ns entries s
  turn_at byte_ns entries [] i s h g = absurd (cc g)
  turn_at byte_ns entries (x ∷ rest) zero s h g =
      let same : x ≡ s = cc g in
      let P : Turn X → Type 0 = λ z. IsNext byte_ns entries rest z in
      record { earlier = rest; next = subst P same h.0; are = h.1 }
  turn_at byte_ns entries (x ∷ rest) (suc i) s h g = turn_at byte_ns entries rest i s h.1 g

  -- an entry of the same class that has a turn before this one's stands before it, and came no later
  pub came_before : (byte_ns : ℕ) (entries : List (Entry X)) (earlier : List (Turn X)) (x : Turn X) (place : ℕ)
      (e : Entry X) → AreInOrder entries → IsNext byte_ns entries earlier x →
      IsWithoutTurn entries (x ∷ earlier) place e → e.priority ≡ x.entry.priority → x.entry.time ≤ e.time
  came_before byte_ns entries earlier x place e order n free same =
      let before : x.place ≤ place = n.in_order place e
      (record {
        stands = free.stands;
        without = or-false (x.place == place) (has_turn earlier place) free.without;
      }) same in
      order x.place place x.entry e before n.own.stands free.stands

  pub shorter : (x : Turn X) (turns : List (Turn X)) (entries : List (Entry X)) (place : ℕ) (e : Entry X) →
      IsWithoutTurn entries (x ∷ turns) place e → IsWithoutTurn entries turns place e
  shorter x turns entries place e free =
      record {
        stands = free.stands;
        without = or-false (x.place == place) (has_turn turns place) free.without;
      }

  high_weighs : (byte_ns : ℕ) (entries : List (Entry X)) (longest : ℕ) (turns : List (Turn X)) (place : ℕ)
      (e : Entry X) → AreInOrder entries →
      ((i : ℕ) (d : Entry X) → slice_get entries i ≡ Some d → d.priority ≡ Low → d.bytes + 20 ≤ longest) →
      AreTurns byte_ns entries turns →
      IsWithoutTurn entries turns place e → e.priority ≡ High →
      AllByRecursion (λ x. Weighs (wire_in High 0 e.time) false longest x.entry) turns
  high_weighs byte_ns entries longest [] place e order small h free high = tt
  high_weighs byte_ns entries longest (x ∷ rest) place e order small h free high = (
    record {
      full = λ c. let is : x.entry.priority ≡ High = counts-is x.entry.priority c in
          wire_full High 0 e.time x.entry is (omega arith)
          (came_before byte_ns entries rest x place e order h.0 free (high ∙ sym is));
      small = λ c. small x.place x.entry h.0.own.stands (counts-not x.entry.priority c);
    },
    high_weighs byte_ns entries longest rest place e order small h.1 (shorter x rest entries place e free) high,
  )

  pub high_soon : (byte_ns : ℕ) (high : Curve) (longest : ℕ) (entries : List (Entry X)) (turns : List (Turn X))
      (i : ℕ) (s : Turn X) →
      byte_ns * high.rate ≤ byte_units → AreInOrder entries → KeepsCurve High high entries →
      ((place : ℕ) (e : Entry X) → slice_get entries place ≡ Some e → e.priority ≡ Low → e.bytes + 20 ≤ longest) →
      AreTurns byte_ns entries turns → slice_get turns i ≡ Some s → s.entry.priority ≡ High →
      byte_units * s.end ≤ byte_units * s.entry.time + byte_ns * (high.burst + byte_units * longest)
  high_soon byte_ns high longest entries turns i s rates order curve small h g is =
      let at = turn_at byte_ns entries turns i s h g in
      let next : IsNext byte_ns entries at.earlier s = at.next in
      let weight : Entry X → ℕ = wire_in High 0 s.entry.time in
      let line = busy_at byte_ns weight false longest entries at.earlier s.moment at.are
      (high_weighs byte_ns entries longest at.earlier s.place s.entry order small at.are next.own is)
      (λ idle place e free. pause byte_ns entries at.earlier s next idle place e free) in
      let begins : line.since ≤ s.entry.time
      = line.come s.place s.entry
      (record { stands = next.own.stands; without = line.still s.place next.own.without })
      (is-counted s.entry.priority is) in
      let came = one_class weight line.earlier High line.since s.entry.time 0 entries
      (λ j e k free. let own : IsWithoutTurn entries line.earlier j e = record {
        stands = k;
        without = subst (λ (n : ℕ). has_turn line.earlier n ≡ false) (omega arith) free;
      } in
      wire_later High line.since s.entry.time e (λ c. line.come j e own (is-counted e.priority c))) in
      let full : weight s.entry ≡ s.entry.bytes + 20 =
      wire_full High 0 s.entry.time s.entry is (omega arith) (omega arith) in
      let taken = served weight s at.earlier 0 s.place s.entry entries next.own.stands (omega arith) next.own.without in
      let lasts : s.end ≤ s.moment + (s.entry.bytes + 20) * byte_ns =
      (lasts-of byte_ns entries at.earlier s next).most in
      let ends : s.moment ≤ s.end = (lasts-of byte_ns entries at.earlier s next).after in
      let own : s.entry.bytes + 20 ≤ left_over weight at.earlier 0 entries = omega (arith, taken, full) in
      let own-ns : byte_ns * (s.entry.bytes + 20)
      ≤ byte_ns * left_over weight at.earlier 0 entries = mul-le-mul_left byte_ns own in
      let came-ns : byte_ns * left_over weight line.earlier 0 entries
      ≤ byte_ns * wire_between High line.since s.entry.time entries = mul-le-mul_left byte_ns came in
      let sent : s.end ≤ line.since + byte_ns * (longest + wire_between High line.since s.entry.time entries) = omega (
        arith,
        lasts,
        own-ns,
        came-ns,
        line.balance,
      ) in
      let moment : line.since + (s.entry.time - line.since) ≡ s.entry.time = omega arith in
      let r = soon-high byte_ns high.burst high.rate longest line.since (s.entry.time - line.since) s.end
      (wire_between High line.since s.entry.time entries) rates (curve line.since s.entry.time begins) sent in
      rw moment at r

  low_weighs : (byte_ns : ℕ) (entries : List (Entry X)) (u : ℕ) (turns : List (Turn X)) (place : ℕ) (e : Entry X) →
      AreInOrder entries → AreTurns byte_ns entries turns →
      IsWithoutTurn entries turns place e → e.priority ≡ Low → end_of turns ≤ u →
      AllByRecursion (λ x. Weighs (λ d. wire_in High 0 u d + wire_in Low 0 e.time d) true 0 x.entry) turns
  low_weighs byte_ns entries u [] place e order h free low over = tt
  low_weighs byte_ns entries u (x ∷ rest) place e order h free low over =
      let lasts : x.moment ≤ x.end = (lasts-of byte_ns entries rest x h.0).after in
      let after : end_of rest ≤ x.moment = h.0.after in
      let come : x.entry.time ≤ x.moment = h.0.come in (
        record {
          full = λ c. both_full 0 u e.time x.entry (omega arith) (λ is. omega (arith, lasts, come, over))
              (λ is. came_before byte_ns entries rest x place e order h.0 free (low ∙ sym is));
          small = λ c. absurd (cc c);
        },
        low_weighs byte_ns entries u rest place e order h.1 (shorter x rest entries place e free)
            low (omega (arith, lasts, after, over)),
      )

  pub low_soon : (byte_ns : ℕ) (high low : Curve) (entries : List (Entry X)) (turns : List (Turn X)) (i : ℕ)
      (s : Turn X) →
      byte_ns * (high.rate + low.rate) ≤ byte_units → AreInOrder entries → KeepsCurve High high entries →
      KeepsCurve Low low entries →
      AreTurns byte_ns entries turns → slice_get turns i ≡ Some s → s.entry.priority ≡ Low →
      (byte_units - byte_ns * high.rate) * s.end ≤ (byte_units - byte_ns * high.rate) * s.entry.time + byte_ns *
      (high.burst + low.burst)
  low_soon byte_ns high low entries turns i s rates order high-curve low-curve h g is =
      let at = turn_at byte_ns entries turns i s h g in
      let next : IsNext byte_ns entries at.earlier s = at.next in
      let weight : Entry X → ℕ = λ d. wire_in High 0 s.moment d + wire_in Low 0 s.entry.time d in
      let line = busy_at byte_ns weight true 0 entries at.earlier s.moment at.are
      (low_weighs byte_ns entries s.moment at.earlier s.place s.entry order at.are next.own is next.after)
      (λ idle place e free. pause byte_ns entries at.earlier s next idle place e free) in
      let begins : line.since ≤ s.entry.time
      = line.come s.place s.entry
      (record { stands = next.own.stands; without = line.still s.place next.own.without }) refl in
      let come : s.entry.time ≤ s.moment = next.come in
      let came = both_classes weight line.earlier line.since s.moment s.entry.time 0 entries
      (λ j e k free. let own : IsWithoutTurn entries line.earlier j e = record {
        stands = k;
        without = subst (λ (n : ℕ). has_turn line.earlier n ≡ false) (omega arith) free;
      } in
      let from : line.since ≤ e.time = line.come j e own refl in
      let here = wire_later High line.since s.moment e (λ c. from) in
      let there = wire_later Low line.since s.entry.time e (λ c. from) in
      omega (arith, here, there)) in
      let full : weight s.entry ≡ s.entry.bytes + 20 =
      both_full 0 s.moment s.entry.time s.entry (omega arith) (λ c. come) (λ c. omega arith) in
      let taken = served weight s at.earlier 0 s.place s.entry entries next.own.stands (omega arith) next.own.without in
      let lasts : s.end ≤ s.moment + (s.entry.bytes + 20) * byte_ns =
      (lasts-of byte_ns entries at.earlier s next).most in
      let ends : s.moment ≤ s.end = (lasts-of byte_ns entries at.earlier s next).after in
      let own : s.entry.bytes + 20 ≤ left_over weight at.earlier 0 entries = omega (arith, taken, full) in
      let own-ns : byte_ns * (s.entry.bytes + 20)
      ≤ byte_ns * left_over weight at.earlier 0 entries = mul-le-mul_left byte_ns own in
      let came-ns : byte_ns * left_over weight line.earlier 0 entries
      ≤ byte_ns * (wire_between High line.since s.moment entries + wire_between Low line.since
      s.entry.time entries) = mul-le-mul_left byte_ns came in
      let sent : s.end ≤ line.since + byte_ns *
      (wire_between High line.since s.moment entries + wire_between Low line.since s.entry.time
      entries) = omega
      (arith, lasts, own-ns, came-ns, line.balance) in
      let moment : line.since + (s.entry.time - line.since) ≡ s.entry.time = omega arith in
      let end : line.since + (s.end - line.since) ≡ s.end = omega (arith, ends, begins, come) in
      let r = soon-low byte_ns high.burst high.rate low.burst low.rate
      (byte_units - byte_ns * high.rate) line.since (s.entry.time - line.since)
      (s.moment - line.since) (s.end - line.since)
      (wire_between High line.since s.moment entries)
      (wire_between Low line.since s.entry.time entries) rates (omega (arith, rates))
      (high-curve line.since s.moment (omega (arith, begins, come)))
      (low-curve line.since s.entry.time begins) (omega (arith, ends)) (omega (arith, sent)) in
      rw (moment, end) at r

  pub all-high : HighIsBounded X
  all-high byte_ns high longest_low entries turns rate order keeps small are =
      all_get (λ s. s.entry.priority ≡ High
      → byte_units * s.end ≤ byte_units * s.entry.time + byte_ns *
      (high.burst + byte_units * longest_low)) turns
      (λ i s g is. high_soon byte_ns high longest_low entries turns i s rate order keeps
      (λ place e k. get_all (λ d. d.priority ≡ Low → d.bytes + 20 ≤ longest_low) entries place e small k) are g is)

  pub all-low : LowIsBounded X
  all-low byte_ns high low entries turns rate order highs lows are =
      all_get (λ s. s.entry.priority ≡ Low → (byte_units - byte_ns * high.rate) * s.end
      ≤ (byte_units - byte_ns * high.rate) * s.entry.time
      + byte_ns * (high.burst + low.burst)) turns
      (λ i s g is. low_soon byte_ns high low entries turns i s rate order highs lows are g is)
