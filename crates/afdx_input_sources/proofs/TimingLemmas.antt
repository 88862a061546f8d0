-- The lines of numbers: one number more, and many.
use Rattle.std.proofs.Common.{◌≡◌, ℕ, ◌-◌, ◌≤◌, ◌<◌, [], ◌∷◌, ◌++◌, length, refl, ap, sym, ◌∙◌, subst, suc, arith}
use Rattle.std.proofs.Common.{Option, Some, None, Bool, true, false, nat_lt, if◌then◌else◌}
use Rattle.std.proofs.lemmas.Bool.{ltb-false}
use Rattle.afdx_frame.specs.Times.{latest_listed}
use Rattle.afdx_input_lines.specs.declared.fault.RunFault.{RunFault}
use Rattle.afdx_input_sources.specs.Engine.{Item, item_of}
use Rattle.afdx_input_sources.specs.Items.{most_frames}
use Rattle.afdx_input_sources.specs.declared.number.Number.{Number}
use Rattle.afdx_input_sources.specs.declared.number.Number.TheVariants.{Arrival, Skipped}
use Rattle.afdx_input_sources.specs.declared.number_line.NumberLine.{NumberLine}
use Rattle.afdx_input_sources.specs.NumberLines.{Lines, LineFollows, latest_time, time_or}
use Rattle.afdx_input_sources.specs.Sequences.{Numbers, latest_of, moment_or}
use Rattle.afdx_input_sources.specs.Timing.{Timed, is_late, line_by, origin_in, origin_with, time_next, timed}

-- the line of this number, behind which that is time 0
abbrev pub Line-of : Option ℕ → Item Number → Item NumberLine
Line-of origin x = item_of x.number (line_by origin x.head) x.bytes

-- one number more, of which the time is that of an early one
pub record Earlier (before : Timed) (origin : Option ℕ) (x : Item Number) (lines : Lines) : Type 0 where
  pub first : Lines
  pub is : before ≡ record { lines = first; fault = None }
  pub in_time : is_late origin x.head ≡ false
  pub all : lines ≡ Line-of origin x ∷ first

module _ (late : Item Number → RunFault) where
  by-test : (origin : Option ℕ) (x : Item Number) (first lines : Lines) (t : Bool) → is_late origin x.head ≡ t
      → ◌≡◌ {A = Timed} (if t then record { lines = first; fault = Some (late x) }
      else record { lines = Line-of origin x ∷ first; fault = None }) (record { lines = lines; fault = None })
      → Earlier (record { lines = first; fault = None }) origin x lines
  by-test origin x first lines true is e = let f = ap (λ (t : Timed). t.fault) e in absurd (cc)
  by-test origin x first lines false is e = record {
    first = first;
    is = refl;
    in_time = is;
    all = sym (ap (λ (t : Timed). t.lines) e);
  }

  by-fault : (origin : Option ℕ) (x : Item Number) (first lines : Lines) (fault : Option RunFault)
      → time_next late origin x first fault ≡ record { lines = lines; fault = None }
      → Earlier (record { lines = first; fault = fault }) origin x lines
  by-fault origin x first lines (Some fault) e = let f = ap (λ (t : Timed). t.fault) e in absurd (cc)
  by-fault origin x first lines None e = by-test origin x first lines (is_late origin x.head) refl e

  module _ (said : Option ℕ) where
    -- these are in time, so those before the newest are
    pub timed-before : (past : Numbers) (x : Item Number) (lines : Lines)
        → timed late said (x ∷ past) ≡ record { lines = lines; fault = None }
        → Earlier (timed late said past) (origin_in said past) x lines
    unfolding timed
    timed-before past x lines e =
        by-fault (origin_in said past) x (timed late said past).lines lines (timed late said past).fault e

    -- one more in time
    pub timed-more : (past : Numbers) (x : Item Number) (lines : Lines)
        → timed late said past ≡ record { lines = lines; fault = None }
        → is_late (origin_in said past) x.head ≡ false
        → timed late said (x ∷ past)
        ≡ record { lines = Line-of (origin_in said past) x ∷ lines; fault = None }
    unfolding timed
    timed-more past x lines e early = rw (e, early) refl

    -- one more, too late
    pub timed-late : (past : Numbers) (x : Item Number) (lines : Lines)
        → timed late said past ≡ record { lines = lines; fault = None }
        → is_late (origin_in said past) x.head ≡ true
        → timed late said (x ∷ past) ≡ record { lines = lines; fault = Some (late x) }
    unfolding timed
    timed-late past x lines e is = rw (e, is) refl

    -- behind a fault no line comes
    pub timed-stopped : (past : Numbers) (lines : Lines) (fault : RunFault)
        → timed late said past ≡ record { lines = lines; fault = Some fault } → (later : Numbers)
        → timed late said (later ++ past) ≡ record { lines = lines; fault = Some fault }
    unfolding timed
    timed-stopped past lines fault e [] = e
    timed-stopped past lines fault e (x ∷ later) = rw (timed-stopped past lines fault e later) refl

    -- the line of each
    pub timed-length : (past : Numbers) (lines : Lines)
        → timed late said past ≡ record { lines = lines; fault = None } → length lines ≡ length past
    unfolding timed
    timed-length [] lines e = ap length (sym (ap (λ (t : Timed). t.lines) e))
    timed-length (x ∷ past) lines e =
        let b = timed-before past x lines e in
        ap length b.all ∙ ap (λ n. suc n) (timed-length past b.first b.is)

    -- the lines of the first of numbers are the first lines
    next-extends : (origin : Option ℕ) (x : Item Number) (first lines : Lines) (fault : Option RunFault) (t : Bool)
        → is_late origin x.head ≡ t → ((more : Lines) × (first ≡ more ++ lines))
        → (more : Lines) × ((time_next late origin x first fault).lines ≡ more ++ lines)
    next-extends origin x first lines (Some fault) t is h = h
    next-extends origin x first lines None true is h = (h.0, rw is h.1)
    next-extends origin x first lines None false is h =
        (Line-of origin x ∷ h.0, rw is (ap (λ (all : Lines). Line-of origin x ∷ all) h.1))

    pub timed-extends : (past : Numbers) (lines : Lines) (fault : Option RunFault)
        → timed late said past ≡ record { lines = lines; fault = fault } → (later : Numbers)
        → (more : Lines) × ((timed late said (later ++ past)).lines ≡ more ++ lines)
    unfolding timed
    timed-extends past lines fault e [] = ([], ap (λ (t : Timed). t.lines) e)
    timed-extends past lines fault e (x ∷ later) =
        let all = timed late said (later ++ past) in
        let origin = origin_in said (later ++ past) in
        next-extends origin x all.lines lines all.fault (is_late origin x.head) refl
        (timed-extends past lines fault e later)

-- ---- the time of the newest line

-- it is this one's moment, counted from time 0, and not too late
abbrev Is-time : Option ℕ → (moment time : ℕ) → Type 0
Is-time None moment time = time ≡ 0
Is-time (Some origin) moment time = time ≡ moment - origin

pub record IsInTime (origin : Option ℕ) (moment time : ℕ) : Type 0 where
  pub is_time : Is-time origin moment time
  pub early : time ≤ latest_listed

not-late : (moment : ℕ) → nat_lt latest_listed moment ≡ false → moment ≤ latest_listed
not-late moment e = ltb-false latest_listed moment e

pub in-time-more : (origin : Option ℕ) (head : Number) (moment time : ℕ) → IsInTime origin moment time
    → is_late origin head ≡ false
    → IsInTime (origin_with head origin) (moment_or head moment) (time_or (line_by origin head) time)
unfolding is_late line_by
in-time-more (Some origin) (Arrival found) moment time h e =
    record { is_time = refl; early = not-late (found.moment - origin) e }
in-time-more None (Arrival found) moment time h e =
    record { is_time = refl; early = not-late (found.moment - found.moment) e }
in-time-more origin (Skipped reason) moment time h e = h

in-time-none : (said : Option ℕ) → IsInTime said 0 0
in-time-none None = record { is_time = refl; early = omega arith }
in-time-none (Some origin) = record { is_time = omega arith; early = omega arith }

module _ (late : Item Number → RunFault) (said : Option ℕ) where
  pub in-time : (past : Numbers) (lines : Lines)
      → timed late said past ≡ record { lines = lines; fault = None }
      → IsInTime (origin_in said past) (latest_of past) (latest_time lines)
  unfolding timed latest_of latest_time origin_in
  in-time [] lines e =
      subst (λ (all : Lines). IsInTime said 0 (latest_time all)) (ap (λ (t : Timed). t.lines) e) (in-time-none said)
  in-time (x ∷ past) lines e =
      let b = timed-before late said past x lines e in
      let origin = origin_in said past in
      subst (λ (all : Lines). IsInTime (origin_with x.head origin) (moment_or x.head (latest_of past))
      (latest_time all)) (sym b.all)
      (in-time-more origin x.head (latest_of past) (latest_time b.first) (in-time past b.first b.is) b.in_time)

pub time-grows : (origin : Option ℕ) (head : Number) (moment time : ℕ) → IsInTime origin moment time
    → moment ≤ moment_or head moment → time ≤ time_or (line_by origin head) time
unfolding line_by
time-grows (Some origin) (Arrival found) moment time h e =
    let is : time ≡ moment - origin = h.is_time in omega (arith, is, e)
time-grows None (Arrival found) moment time h e = let is : time ≡ 0 = h.is_time in omega (arith, is)
time-grows origin (Skipped reason) moment time h e = omega arith

-- the line of a number that is no earlier, and not too late
pub line-follows : (late : Item Number → RunFault) (said : Option ℕ) (past : Numbers) (x : Item Number) (lines : Lines)
    → timed late said past ≡ record { lines = lines; fault = None } → latest_of past ≤ latest_of (x ∷ past)
    → is_late (origin_in said past) x.head ≡ false → length past < most_frames
    → LineFollows lines (Line-of (origin_in said past) x)
unfolding latest_of latest_time
line-follows late said past x lines e order early few =
    let h = in-time late said past lines e in
    let origin = origin_in said past in
    let more = in-time-more origin x.head (latest_of past) (latest_time lines) h early in
    let count = timed-length late said past lines e in record {
      order = time-grows origin x.head (latest_of past) (latest_time lines) h order;
      early = more.early;
      few = omega (arith, count, few);
    }
