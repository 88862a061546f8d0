-- What `solve` tells, line by line.
use Rattle.std.proofs.Common.{◌≡◌, ℕ, ◌+◌, List, [], ◌++◌, length, Bool, false, is_some, refl, sym, ap, ◌∙◌}
use Rattle.std.proofs.Common.{append_assoc, add-one, Option, Some, None, slice_get, true, ◌⊎◌, inl, inr}
use Rattle.std.proofs.Common.{Vec, subst}
use Rattle.std.specs.Prelude.{codes}
use Rattle.std.specs.Option.{option_map_or}
use Rattle.std.specs.declared.alloc.Global.{Global}
use Rattle.std.proofs.lemmas.List.{append-nil}
use Rattle.afdx_config.specs.Asked.{lists}
use Rattle.afdx_config.specs.Lawful.{IsLawful}
use Rattle.afdx_config.specs.Switches.{NamedRows}
use Rattle.afdx_config.specs.ToSolve.{IsToSolve}
use Rattle.afdx_config.specs.declared.reading_to_solve.ToSolve.{ToSolve}
use Rattle.afdx_config.specs.declared.reading_to_solve.ToSolve.TheVariants.{One, Several}
use Rattle.afdx_config.specs.Rows.{LinkRow, Rows}
use Rattle.afdx_config.specs.Reading.{system_at_port}
use Rattle.afdx_admit.proofs.PortLemmas.{not-some}
use Rattle.afdx_solve.specs.declared.options.SolveOptions.{SolveOptions}
use Rattle.afdx_solve.specs.Solved.{solved, with_jitters, with_least_buffer, with_delays}
use Rattle.afdx_command_tables.specs.SolveText.{need_at, asked_by}
use Rattle.afdx_command_tables.specs.SolveText.{needs_of_first, needs_at, needs_at_first}
use Rattle.afdx_command_tables.specs.Solving.{IsSolution, IsSolutionOfOne, IsSolutionOfSeveral}
use Rattle.afdx_command_tables.specs.Solving.{IsDenial, IsDenialOfOne, IsShortOfOne, IsDenialOfSeveral, IsShortOfSeveral}

-- one piece more
more : (old pieces piece before after : List ℕ) → before ≡ old ++ pieces → after ≡ before ++ piece
    → after ≡ old ++ (pieces ++ piece)
more old pieces piece before after e f =
    f ∙ ap (λ (text : List ℕ). text ++ piece) e ∙ append_assoc old pieces piece

-- the line in its three pieces: the link, the port, what is needed and asked
pub pieces : (old digits port rest before after : List ℕ)
    → before ≡ old ++ (codes "vl " ++ (digits ++ codes " at ")) → after ≡ before ++ port
    → after ++ rest ≡ old ++ (codes "vl " ++ (digits ++ (codes " at " ++ (port ++ rest))))
pieces old digits port rest before after e f =
    ap (λ (text : List ℕ). text ++ rest) (f ∙ ap (λ (text : List ℕ). text ++ port) e)
    ∙ append_assoc (old ++ (codes "vl " ++ (digits ++ codes " at "))) port rest
    ∙ append_assoc old (codes "vl " ++ (digits ++ codes " at ")) (port ++ rest)
    ∙ ap (λ (text : List ℕ). old ++ (codes "vl " ++ text)) (append_assoc digits (codes " at ") (port ++ rest))

module _ (switch : List ℕ) (t : Rows) (asked : List (Option ℕ)) where
  -- ---- the links at one port

  pub no_link : (port place : ℕ) (text : List ℕ) → text ≡ text ++ needs_of_first switch t asked port place 0
  unfolding needs_of_first
  no_link port place text = sym (append-nil text)

  with_link : (port place i : ℕ) (l : LinkRow) → slice_get t.links i ≡ Some l →
      needs_of_first switch t asked port place (i + 1)
      ≡ needs_of_first switch t asked port place i ++ need_at switch t port place l (asked_by asked i)
  unfolding needs_of_first
  with_link port place i l at =
      rw add-one
      (ap (λ (o : Option LinkRow). needs_of_first switch t asked port place i
      ++ option_map_or (λ l. need_at switch t port place l (asked_by asked i)) o []) at)

  pub link-next : (port place i : ℕ) (l : LinkRow) → slice_get t.links i ≡ Some l →
      (old before after : List ℕ) → before ≡ old ++ needs_of_first switch t asked port place i →
      after ≡ before ++ need_at switch t port place l (asked_by asked i)
      → after ≡ old ++ needs_of_first switch t asked port place (i + 1)
  link-next port place i l at old before after e f =
      more old (needs_of_first switch t asked port place i) (need_at switch t port place l (asked_by asked i)) before
      after e f
      ∙ ap (λ (text : List ℕ). old ++ text) (sym (with_link port place i l at))

  pub at_system : (port place : ℕ) → Some place ≡ system_at_port t.systems port →
      needs_of_first switch t asked port place (length t.links) ≡ needs_at switch t asked port
  unfolding needs_at
  at_system port place at =
      ap (λ (o : Option ℕ). option_map_or (λ p. needs_of_first switch t asked port p (length t.links)) o []) at

  pub at_no_system : (port : ℕ) (text : List ℕ) → None ≡ system_at_port t.systems port →
      text ≡ text ++ needs_at switch t asked port
  unfolding needs_at
  at_no_system port text at =
      sym (append-nil text)
      ∙ ap (λ (o : Option ℕ). text ++ option_map_or (λ p. needs_of_first switch t asked port p (length t.links)) o [])
      at

  pub at_unused : (port : ℕ) (text : List ℕ) → false ≡ is_some (system_at_port t.systems port) →
      text ≡ text ++ needs_at switch t asked port
  at_unused port text none = at_no_system port text (sym (not-some (system_at_port t.systems port) none))

  -- ---- the ports

  pub no_port : (text : List ℕ) → text ≡ text ++ needs_at_first switch t asked 0
  unfolding needs_at_first
  no_port text = sym (append-nil text)

  with_port : (count : ℕ) →
      needs_at_first switch t asked (count + 1) ≡ needs_at_first switch t asked count ++ needs_at switch t asked
      (count + 1)
  unfolding needs_at_first
  with_port count = rw add-one refl

  pub port-next : (count : ℕ) (old before after : List ℕ)
      → before ≡ old ++ needs_at_first switch t asked count →
      after ≡ before ++ needs_at switch t asked (count + 1)
      → after ≡ old ++ needs_at_first switch t asked (count + 1)
  port-next count old before after e f =
      more old (needs_at_first switch t asked count) (needs_at switch t asked (count + 1)) before after e f
      ∙ ap (λ (text : List ℕ). old ++ text) (sym (with_port count))

-- ---- what is written

pub either : {A B : Type 0} (b : Bool) → (b ≡ true → A) → (b ≡ false → B) → A ⊎ B
either true a b = inl (a refl)
either false a b = inr (b refl)

-- what is solved is of the one switch still
pub solved-alone : (o : SolveOptions) (t all : Rows) → t.own ≡ length t.systems → all ≡ solved o t
    → all.own ≡ length all.systems
unfolding with_jitters with_least_buffer with_delays
solved-alone o t all own is = ap (λ r. r.own) is ∙ own ∙ sym (ap (λ (r : Rows). length r.systems) is)

-- ---- what a file describes

module _ (o : SolveOptions) (config : List ℕ) (file : ToSolve) (text needs : List ℕ)
    (read : IsToSolve o.kept config file) where
  module _ (t : Rows) (v : Vec (Option ℕ) Global) (is : file ≡ One t v) where
    known : IsToSolve o.kept config (One t v)
    known = subst (IsToSolve o.kept config) is read

    pub one-solution : (asked : List (Option ℕ)) → asked ≡ v.items
        → (IsLawful t → IsSolutionOfOne o t asked text needs) → IsSolution o config text needs
    one-solution asked same solves = record {
      file = One t v;
      read = known;
      solution = subst (λ (a : List (Option ℕ)). IsSolutionOfOne o t a text needs) same (solves known.1);
    }

    pub one-denial : IsDenialOfOne o t text ⊎ IsShortOfOne o t text → IsDenial o config text
    one-denial denies = record { file = One t v; read = known; denial = denies }

  module _ (switches : List NamedRows) (v : Vec (Vec (Option ℕ) Global) Global) (is : file ≡ Several switches v) where
    known-all : IsToSolve o.kept config (Several switches v)
    known-all = subst (IsToSolve o.kept config) is read

    pub several-solution : (asked : List (Vec (Option ℕ) Global)) → asked ≡ v.items
        → IsSolutionOfSeveral o switches (lists asked) text needs → IsSolution o config text needs
    several-solution asked same solves = record {
      file = Several switches v;
      read = known-all;
      solution = subst (λ (a : List (Vec (Option ℕ) Global)). IsSolutionOfSeveral o switches (lists a) text needs)
          same solves;
    }

    pub several-denial : IsDenialOfSeveral o switches text ⊎ IsShortOfSeveral o switches text → IsDenial o config text
    several-denial denies = record { file = Several switches v; read = known-all; denial = denies }
