-- By what the senders of a switch are judged, and the setups while one link's sender after the other
-- is judged, too.
use Rattle.std.proofs.Common.{◌≡◌, ℕ, ◌+◌, ◌≤◌, Bool, true, false, [], ◌&&◌, List, length, refl, sym, ap, ◌∙◌, subst, arith}
use Rattle.std.proofs.lemmas.Bool.{eqb-true, eqb-false, le-ltb, lt-ltb, ltb-true, ltb-false}
use Rattle.std.proofs.lemmas.Option.{same_Some, slice_get_within}
use Rattle.std.proofs.lemmas.List.Sorted.{IsPermutation-refl}
use Rattle.std.specs.List.Sorted.{IsPermutation}
use Rattle.std.specs.Option.{option_map_or}
use Rattle.std.specs.Prelude.{filter, if◌then◌else◌, nat_eq, nat_lt, slice_get, Option, Some}
use Rattle.afdx_config.specs.Rows.{LinkRow, Rows}
use Rattle.afdx_senders.proofs.EarlyLemmas.{told_early}
use Rattle.afdx_senders.proofs.NewLemmas.{none_below}
use Rattle.afdx_senders.specs.AllLines.{all_lines, is_early, lines_coming}
use Rattle.afdx_senders.specs.Lines.{Line}
use Rattle.afdx_senders.specs.Setups.{Setup, ending, nobody, setup_with}
use Rattle.afdx_senders.specs.Sites.{Recorded}
use Rattle.afdx_senders.specs.Telling.{AreToldBefore, AreToldEarly}
use Rattle.afdx_command_senders.specs.Asked.{Asked}
use Rattle.afdx_command_senders.specs.LinkWays.{ways_by}
use Rattle.afdx_command_senders.specs.Outlook.{Outlook}
use Rattle.afdx_command_senders.specs.Setting.{AreRecorded, IsSetting, IsSettingBelow, setting_of}

-- ---- of no frames

no-lines : (z : Setup) → all_lines z [] ≡ []
unfolding all_lines lines_coming
no-lines z = none_below z (length z.tables.links)

pub nothing-told : (z : Setup) (before : Option ℕ) → AreToldBefore z before [] []
nothing-told z before = record {
  are = subst (λ (l : List Line). IsPermutation [] (filter (is_early before) l)) (sym (no-lines z))
      (IsPermutation-refl []);
  in_order = tt;
}

pub nothing-early : (z : Setup) (said : Option ℕ) (time : ℕ) → AreToldEarly z said time [] []
nothing-early z said time = told_early z said time [] [] (λ until may. nothing-told (ending until z) (Some time))

-- ---- there is a setting

there : (t : Rows) {X : Type 0} (f : LinkRow → X) (none : X) (place : ℕ) (l : LinkRow)
    → slice_get t.links place ≡ Some l → option_map_or f (slice_get t.links place) none ≡ f l
there t f none place l e = ap (λ (o : Option LinkRow). option_map_or f o none) e

pub is-setting : (o : Outlook) (a : Asked) → IsSetting o a (setting_of o a)
is-setting o a = record {
  tables = refl;
  among = refl;
  recorded = λ side port lt. refl;
  ways = λ place l e. there o.tables (ways_by o.among o.tables) [] place l e;
  given = refl;
  leeway = refl;
  judged = λ place l e. there o.tables (λ r. nat_lt r.from o.tables.own) false place l e;
}

-- ---- one after the other

pub none-below : (o : Outlook) (a : Asked) (recorded : Recorded) → AreRecorded a.taps recorded
    → IsSettingBelow 0 o a (setup_with o.tables o.among recorded (setting_of o a).asked nobody)
none-below o a recorded is = record {
  tables = refl;
  among = refl;
  recorded = is;
  ways = λ place l e. there o.tables (ways_by o.among o.tables) [] place l e;
  given = refl;
  leeway = refl;
  judged = λ place l e. ap (λ (b : Bool). b && nat_lt l.from o.tables.own) (sym (le-ltb place 0 (omega arith)));
}

module _ (o : Outlook) (a : Asked) (n : ℕ) (z : Setup) (h : IsSettingBelow n o a z) (l : LinkRow)
    (at : slice_get o.tables.links n ≡ Some l) where
  same-row : (k : ℕ) (r : LinkRow) → slice_get o.tables.links k ≡ Some r → k ≡ n → r ≡ l
  same-row k r e same = same_Some r l (sym e ∙ ap (λ (i : ℕ). slice_get o.tables.links i) same ∙ at)

  after : (m k : ℕ) → m ≤ k → (k ≡ m → ⊥) → (m + 1) ≤ k
  after m k le other = by (nat_lt m k) refl
    where
      by : (b : Bool) → nat_lt m k ≡ b → (m + 1) ≤ k
      by true lt = let less = ltb-true m k lt in omega (arith, less)
      by false ge = absurd (other (let more = ltb-false m k ge in omega (arith, le, more)))

  -- which of those before the next place are judged
  next-judged : (own : Bool) → nat_lt l.from o.tables.own ≡ own → (k : ℕ) (r : LinkRow)
      → slice_get o.tables.links k ≡ Some r
      → (if nat_eq k n then own else z.is_judged k) ≡ (nat_lt k (n + 1) && nat_lt r.from o.tables.own)
  next-judged own is k r e = by (nat_eq k n) refl
    where
      by : (b : Bool) → nat_eq k n ≡ b
          → (if b then own else z.is_judged k) ≡ (nat_lt k (n + 1) && nat_lt r.from o.tables.own)
      by true same =
          let k-is = eqb-true k n same in
          sym is ∙ ap (λ (x : LinkRow). nat_lt x.from o.tables.own) (sym (same-row k r e k-is))
          ∙ ap (λ (b : Bool). b && nat_lt r.from o.tables.own) (sym (lt-ltb k (n + 1) (omega (arith, k-is))))
      by false other = h.judged k r e ∙ ap (λ (b : Bool). b && nat_lt r.from o.tables.own) (below (nat_lt k n) refl)
        where
          below : (b : Bool) → nat_lt k n ≡ b → nat_lt k n ≡ nat_lt k (n + 1)
          below true lt = lt ∙ sym (lt-ltb k (n + 1) (let before = ltb-true k n lt in omega (arith, before)))
          below false le =
              le ∙ sym (le-ltb k (n + 1) (let before = ltb-false k n le in let not-it = eqb-false k n other in
              after n k before not-it))

  -- its sender is judged, too
  abbrev pub next-setup : Setup
  next-setup = record z { is_judged = λ k. if nat_eq k n then true else z.is_judged k }

  pub is-next : nat_lt l.from o.tables.own ≡ true → IsSettingBelow (n + 1) o a next-setup
  is-next own = record {
    tables = h.tables;
    among = h.among;
    recorded = h.recorded;
    ways = h.ways;
    given = h.given;
    leeway = h.leeway;
    judged = λ k r e. next-judged true own k r e;
  }

  -- or it is none of the switch's
  pub is-same : nat_lt l.from o.tables.own ≡ false → IsSettingBelow (n + 1) o a z
  is-same own = record {
    tables = h.tables;
    among = h.among;
    recorded = h.recorded;
    ways = h.ways;
    given = h.given;
    leeway = h.leeway;
    judged = λ k r e. kept k r e (nat_eq k n) refl;
  }
    where
      kept : (k : ℕ) (r : LinkRow) → slice_get o.tables.links k ≡ Some r → (b : Bool) → nat_eq k n ≡ b
          → z.is_judged k ≡ (nat_lt k (n + 1) && nat_lt r.from o.tables.own)
      kept k r e true same =
          h.judged k r e
          ∙ ap (λ (b : Bool). b && nat_lt r.from o.tables.own)
          (le-ltb k n (let i = eqb-true k n same in omega (arith, i)))
          ∙ sym own ∙ ap (λ (x : LinkRow). nat_lt x.from o.tables.own) (sym (same-row k r e (eqb-true k n same)))
          ∙ ap (λ (b : Bool). b && nat_lt r.from o.tables.own)
          (sym (lt-ltb k (n + 1) (let i = eqb-true k n same in omega (arith, i))))
      kept k r e false other =
          ap (λ (b : Bool). if b then false else z.is_judged k) (sym other) ∙ next-judged false own k r e

-- once all are
pub all-below : (o : Outlook) (a : Asked) (n : ℕ) (z : Setup) → n ≡ length o.tables.links → IsSettingBelow n o a z
    → IsSetting o a z
all-below o a n z all h = record {
  tables = h.tables;
  among = h.among;
  recorded = h.recorded;
  ways = h.ways;
  given = h.given;
  leeway = h.leeway;
  judged = λ k r e. h.judged k r e
      ∙ ap (λ (b : Bool). b && nat_lt r.from o.tables.own)
      (lt-ltb k n (let lt = slice_get_within o.tables.links k r e in omega (arith, all, lt)));
}
