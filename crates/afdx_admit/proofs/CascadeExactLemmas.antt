-- No line of a cascade is false exactly where it is admitted.
use Rattle.std.proofs.Common.{◌≡◌, inl, inr, ℕ, ◌≤◌, nat_le, nat_lt, Bool, true, false, not, ◌||◌, List, []}
use Rattle.std.proofs.Common.{◌∷◌, ◌++◌, length, map, filter, cond, Option, Some, None, slice_get, if◌then◌else◌}
use Rattle.std.proofs.Common.{refl, sym, ap, ◌∙◌, arith}
use Rattle.std.specs.List.{AllByRecursion}
use Rattle.std.specs.Option.{option_map}
use Rattle.std.proofs.lemmas.Bool.{cases_lt}
use Rattle.std.proofs.lemmas.Bool.Decides.{nat_tests}
use Rattle.std.proofs.lemmas.List.Elements.{All-from_recursion, recursion_from_All, All-contains, All-contains_itself}
use Rattle.std.proofs.lemmas.Option.{slice_get_within}
use Rattle.afdx_frame.specs.Lines.{Line, line, first_false, each_from}
use Rattle.afdx_frame.proofs.FirstFalseLemmas.{first_false-nil, cons_holds, holds_cons, append_holds, holds_append}
use Rattle.afdx_frame.proofs.FirstFalseLemmas.{each_holds, holds_each, le-true, true-le}
use Rattle.afdx_frame.proofs.ListLemmas.{AllByRecursion-slice_get, slice_get-within}
use Rattle.afdx_config.specs.Lawful.{IsLawfulSwitch}
use Rattle.afdx_config.specs.Rows.{LinkRow, Rows}
use Rattle.afdx_config.specs.Switches.{NamedRows, AreSwitches}
use Rattle.afdx_admit.specs.declared.fault.AdmitFault.{AdmitFault}
use Rattle.afdx_admit.specs.declared.cascade_fault.CascadeFault.{CascadeFault}
use Rattle.afdx_admit.specs.declared.cascade_fault.SwitchFault.TheVariants.{Own, Contract, HopJitter, PathSkew}
use Rattle.afdx_admit.specs.Lines.{lines}
use Rattle.afdx_admit.specs.Cascade.{RowAt, row_at, row_before, way_latency, fault_at, own_line, own_lines}
use Rattle.afdx_admit.specs.Cascade.{same_contract, late_behind, goes_to_system, allows_way, lines_of_hop, fed_line}
use Rattle.afdx_admit.specs.Cascade.{lines_if_fed, lines_of_row, hop_lines, hops_lines, reads, read_line}
use Rattle.afdx_admit.specs.Cascade.{reader_lines, readers_lines, cascade_lines}
use Rattle.afdx_admit.specs.Cascade.{IsHop, IsCascadeAdmitted}
use Rattle.afdx_admit.proofs.CascadeLemmas.{own_first, owns-at, hops-at, hop-at, readers-at, reader-at}
use Rattle.afdx_admit.proofs.ExactLemmas.{admitted_from, from_admitted}

-- ---- a row that comes from a neighbour

allows : (t : Rows) (l : LinkRow) (sum : ℕ) → allows_way t l sum ≡ true → goes_to_system t l ≡ true → sum ≤ l.skew_us
allows t l sum h goes = true-le sum l.skew_us (sym (ap (λ b. not b || nat_le sum l.skew_us) goes) ∙ h)

allowed : (t : Rows) (l : LinkRow) (sum : ℕ) → (goes_to_system t l ≡ true → sum ≤ l.skew_us) → allows_way t l sum ≡ true
allowed t l sum h = by (goes_to_system t l) h
  where
    by : (b : Bool) → (b ≡ true → sum ≤ l.skew_us) → not b || nat_le sum l.skew_us ≡ true
    by true g = le-true sum l.skew_us (g refl)
    by false g = refl

module _ (ss : List NamedRows) (k : ℕ) (t : Rows) (l : LinkRow) where
  abbrev here : RowAt
  here = row_at k l

  module _ (before : RowAt) (sum : ℕ) where
    abbrev contract_line : Line CascadeFault
    contract_line = line (same_contract before.row l) (fault_at k (Contract (record { 0 = l.vl })))

    abbrev jitter_line : Line CascadeFault
    jitter_line = line (nat_le (late_behind before.row) l.jitter_us)
        (fault_at k (HopJitter (record { 0 = l.vl }) (late_behind before.row)))

    abbrev skew_line : Line CascadeFault
    skew_line = line (allows_way t l sum) (fault_at k (PathSkew (record { 0 = l.vl }) sum))

  is-hop : (before : Option RowAt) (sum : Option ℕ) → row_before ss here ≡ before → way_latency ss here ≡ sum
      → first_false (lines_if_fed k t l before sum) ≡ None → IsHop ss t here
  is-hop (Some before) (Some sum) stands way h =
      let rest = cons_holds (fed_line true k l) (lines_of_hop k t before.row l sum) h in
      let first = cons_holds (contract_line before sum) (jitter_line before sum ∷ skew_line before sum ∷ []) rest.rest
      in
      let second = cons_holds (jitter_line before sum) (skew_line before sum ∷ []) first.rest in
      let third = cons_holds (skew_line before sum) [] second.rest in
      record {
        before = before;
        sum = sum;
        stands = stands;
        way = way;
        contract = first.one;
        jitter = true-le (late_behind before.row) l.jitter_us second.one;
        skew = allows t l sum third.one;
      }
  is-hop (Some before) None stands way h = absurd (cc (cons_holds (fed_line false k l) [] h).one)
  is-hop None sum stands way h = absurd (cc (cons_holds (fed_line false k l) [] h).one)

  pub hop-from : first_false (lines_of_row ss k t l) ≡ None → t.own ≤ l.from → IsHop ss t here
  hop-from h past =
      let after : nat_lt l.from t.own ≡ false = grind (arith, nat_tests) in
      is-hop (row_before ss here) (way_latency ss here) refl refl
      (sym (ap (λ b. first_false (if b then [] else lines_if_fed k t l (row_before ss here) (way_latency ss here)))
      after)
      ∙ h)

  pub from-hop : (t.own ≤ l.from → IsHop ss t here) → first_false (lines_of_row ss k t l) ≡ None
  from-hop hop = elim (cases_lt l.from t.own) [
    | inl below ↦
        let own : nat_lt l.from t.own ≡ true = grind (arith, nat_tests, below) in
        ap (λ b. first_false (if b then [] else lines_if_fed k t l (row_before ss here) (way_latency ss here))) own
        ∙ first_false-nil
    | inr past ↦
        let after : nat_lt l.from t.own ≡ false = grind (arith, nat_tests, past) in
        let h = hop past in
        ap (λ b. first_false (if b then [] else lines_if_fed k t l (row_before ss here) (way_latency ss here))) after
        ∙ ap (λ before. first_false (lines_if_fed k t l before (way_latency ss here))) h.stands
        ∙ ap (λ sum. first_false (lines_if_fed k t l (Some h.before) sum)) h.way
        ∙ holds_cons (fed_line true k l) (lines_of_hop k t h.before.row l h.sum) refl
        (holds_cons (contract_line h.before h.sum) (jitter_line h.before h.sum ∷ skew_line h.before h.sum ∷ [])
        h.contract
        (holds_cons (jitter_line h.before h.sum) (skew_line h.before h.sum ∷ [])
        (le-true (late_behind h.before.row) l.jitter_us h.jitter)
        (holds_cons (skew_line h.before h.sum) [] (allowed t l h.sum h.skew) first_false-nil)))
  ]

-- ---- the neighbours to which a row goes

module _ (ss : List NamedRows) (k : ℕ) (s : NamedRows) (l : LinkRow) where
  abbrev IsRead : ℕ → Type 0
  IsRead place = s.rows.own ≤ place → reads ss s l place ≡ true

  abbrev lines_to : List ℕ → List (Line CascadeFault)
  lines_to places = map (read_line ss k s l) (filter (λ place. nat_le s.rows.own place) places)

  all-read : (places : List ℕ) → first_false (lines_to places) ≡ None → AllByRecursion IsRead places
  all-read [] h = tt
  all-read (place ∷ places) h = by (nat_le s.rows.own place) refl h (all-read places)
    where
      by : (b : Bool) → nat_le s.rows.own place ≡ b
          → first_false (map (read_line ss k s l) (cond b (place ∷ filter (λ place. nat_le s.rows.own place) places)
          (filter (λ place. nat_le s.rows.own place) places))) ≡ None
          → (first_false (lines_to places) ≡ None → AllByRecursion IsRead places)
          → IsRead place × AllByRecursion IsRead places
      by true e none later =
          let both = cons_holds (read_line ss k s l place) (lines_to places) none in
          (λ past. both.one, later both.rest)
      by false e none later = (λ past. absurd (cc (e, le-true s.rows.own place past)), later none)

  read-all : (places : List ℕ) → AllByRecursion IsRead places → first_false (lines_to places) ≡ None
  read-all [] h = first_false-nil
  read-all (place ∷ places) h = by (nat_le s.rows.own place) refl (read-all places h.1)
    where
      by : (b : Bool) → nat_le s.rows.own place ≡ b → first_false (lines_to places) ≡ None
          → first_false (map (read_line ss k s l) (cond b (place ∷ filter (λ place. nat_le s.rows.own place) places)
          (filter (λ place. nat_le s.rows.own place) places))) ≡ None
      by true e later = holds_cons (read_line ss k s l place) (lines_to places) (h.0 (true-le s.rows.own place e)) later
      by false e later = later

-- ---- all

own-none : (k : ℕ) (ls : List (Line AdmitFault)) → first_false (map (own_line k) ls) ≡ None → first_false ls ≡ None
own-none k ls h = none (first_false ls) (sym (own_first k ls) ∙ h)
  where
    none : (o : Option AdmitFault) → option_map (λ fault. fault_at k (Own fault)) o ≡ None → o ≡ None
    none None h = refl
    none (Some fault) h = absurd cc

module _ (ss : List NamedRows) (are : AreSwitches ss) where
  abbrev owns : List (Line CascadeFault)
  owns = each_from (own_lines ss) 0 (length ss)

  abbrev hops : List (Line CascadeFault)
  hops = each_from (hops_lines ss) 0 (length ss)

  abbrev readers : List (Line CascadeFault)
  readers = each_from (readers_lines ss) 0 (length ss)

  lawful : (k : ℕ) (s : NamedRows) → slice_get ss k ≡ Some s → IsLawfulSwitch s.rows
  lawful k s at = AllByRecursion-slice_get (λ r. IsLawfulSwitch r.rows) ss k s are.each at

  -- the lines of one switch, and those of one of its rows
  module _ (f : ℕ → List (Line CascadeFault)) (none : first_false (each_from f 0 (length ss)) ≡ None)
      (k : ℕ) (s : NamedRows) (at : slice_get ss k ≡ Some s) where
    at-switch : first_false (f k) ≡ None
    at-switch = let within = slice_get_within ss k s at in
        each_holds f 0 (length ss) none k (omega arith) (omega (arith, within))

    at-row : (g : ℕ → List (Line CascadeFault)) → f k ≡ each_from g 0 (length s.rows.links)
        → (i : ℕ) (l : LinkRow) → slice_get s.rows.links i ≡ Some l → first_false (g i) ≡ None
    at-row g same i l row = let within = slice_get_within s.rows.links i l row in
        each_holds g 0 (length s.rows.links) (sym (ap first_false same) ∙ at-switch) i (omega arith)
        (omega (arith, within))

  pub admitted-from : first_false (cascade_lines ss) ≡ None → IsCascadeAdmitted ss
  unfolding cascade_lines
  admitted-from h =
      let front = append_holds owns (hops ++ readers) h in
      let back = append_holds hops readers front.1 in
      record {
        each = λ k s at.
            admitted_from s.rows (lawful k s at) (own-none k (lines s.rows)
            (sym (ap first_false (owns-at ss k s at)) ∙ at-switch (own_lines ss) front.0 k s at));
        hops = λ k s at i l row past.
            hop-from ss k s.rows l
            (sym (ap first_false (hop-at ss k s at i l row))
            ∙ at-row (hops_lines ss) back.0 k s at (hop_lines ss k) (hops-at ss k s at) i l row) past;
        readers = λ k s at i l row place goes past.
            let none = sym (ap first_false (reader-at ss k s at i l row))
            ∙ at-row (readers_lines ss) back.1 k s at (reader_lines ss k) (readers-at ss k s at) i l row in
            All-contains (IsRead ss k s l) l.to place
            (All-from_recursion (IsRead ss k s l) l.to (all-read ss k s l l.to none)) goes past;
      }

  -- the lines of all, from those of each switch, and of each row
  all-switches : (f : ℕ → List (Line CascadeFault))
      → ((k : ℕ) (s : NamedRows) → slice_get ss k ≡ Some s → first_false (f k) ≡ None)
      → first_false (each_from f 0 (length ss)) ≡ None
  all-switches f each = holds_each f 0 (length ss) (λ k low high.
      let s = slice_get-within ss k (omega (arith, high)) in each k s.0 s.1)

  all-rows : (g : ℕ → List (Line CascadeFault)) (s : NamedRows)
      → ((i : ℕ) (l : LinkRow) → slice_get s.rows.links i ≡ Some l → first_false (g i) ≡ None)
      → first_false (each_from g 0 (length s.rows.links)) ≡ None
  all-rows g s each = holds_each g 0 (length s.rows.links) (λ i low high.
      let l = slice_get-within s.rows.links i (omega (arith, high)) in each i l.0 l.1)

  pub from-admitted : IsCascadeAdmitted ss → first_false (cascade_lines ss) ≡ None
  unfolding cascade_lines
  from-admitted admitted =
      holds_append owns (hops ++ readers)
      (all-switches (own_lines ss) (λ k s at.
      ap first_false (owns-at ss k s at) ∙ own_first k (lines s.rows)
      ∙ ap (option_map (λ fault. fault_at k (Own fault))) (from_admitted s.rows (lawful k s at)
      (admitted.each k s at))))
      (holds_append hops readers
      (all-switches (hops_lines ss) (λ k s at.
      ap first_false (hops-at ss k s at)
      ∙ all-rows (hop_lines ss k) s (λ i l row.
      ap first_false (hop-at ss k s at i l row) ∙ from-hop ss k s.rows l (admitted.hops k s at i l row))))
      (all-switches (readers_lines ss) (λ k s at.
      ap first_false (readers-at ss k s at)
      ∙ all-rows (reader_lines ss k) s (λ i l row.
      ap first_false (reader-at ss k s at i l row)
      ∙ read-all ss k s l l.to (recursion_from_All (IsRead ss k s l) l.to
      (λ n d within. admitted.readers k s at i l row _ (All-contains_itself l.to n d within)))))))
