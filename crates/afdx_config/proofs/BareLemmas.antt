-- What is told of switches over all of them doesn't rest on jitters, latencies, skews and buffers.
use Rattle.std.proofs.Common.{◌≡◌, ℕ, zero, suc, ◌+◌, ◌-◌, Bool, false, cond, List, [], ◌∷◌, ◌++◌, length, map, not, ◌||◌, ◌&&◌}
use Rattle.std.proofs.Common.{Option, Some, None, is_some, slice_get, position, nat_le, nat_lt, nat_eq, option_map, option_and_then}
use Rattle.std.proofs.Common.{refl, sym, ap, ◌∙◌}
use Rattle.std.specs.List.{position_or_len}
use Rattle.std.specs.Option.{option_map_or}
use Rattle.std.specs.Str.{bytes_eq}
use Rattle.std.proofs.lemmas.List.{length-map}
use Rattle.std.proofs.lemmas.Option.{slice_get-map}
use Rattle.afdx_frame.specs.Lines.{Line, each_from}
use Rattle.afdx_config.specs.declared.file_fault.FileFault.{FileFault}
use Rattle.afdx_config.specs.Rows.{SystemRow, LinkRow, Rows}
use Rattle.afdx_config.specs.Reading.{link_of}
use Rattle.afdx_config.specs.Switches.{NamedRows, switch_named, own_named, neighbour_named, own_has_id, starts}
use Rattle.afdx_config.specs.Switches.{home_of, home_of_id, start_of, listed_at, neighbour_row, is_this}
use Rattle.afdx_config.specs.Switches.{name_lines, lines_of_system, system_lines, lines_of_neighbour, neighbour_lines}
use Rattle.afdx_config.specs.Switches.{over_all_line, lines_of_start, start_lines, systems_lines, neighbours_lines, starts_lines, over_all}
use Rattle.afdx_config.specs.ChangedSwitches.{bare_link, bare, bare_switch, AreAlike}
use Rattle.afdx_config.specs.Keys.{place}
use Rattle.afdx_config.specs.declared.fault.Part.TheVariants as part
use Rattle.afdx_config.specs.declared.fault.ConfigFault.TheVariants.{OutOfRange, Twice, NoSuchSystem}

-- ---- lists that are mapped

module _ {X Y : Type 0} (f : X → Y) where
  position_or_len-map : (p : Y → Bool) (xs : List X) → position_or_len p (map f xs) ≡ position_or_len (λ x. p (f x)) xs
  position_or_len-map p [] = refl
  position_or_len-map p (x ∷ xs) = ap (λ n. cond (not (p (f x))) (1 + n) 0) (position_or_len-map p xs)

  pub position-map : (p : Y → Bool) (xs : List X) → position p (map f xs) ≡ position (λ x. p (f x)) xs
  position-map p xs = rw (position_or_len-map p xs, length-map xs f)

  -- a search by another test that agrees
  pub position-same : (p q : X → Bool) → ((x : X) → p x ≡ q x) → (xs : List X) → position p xs ≡ position q xs
  position-same p q same xs = rw (by xs)
    where
      by : (ys : List X) → position_or_len p ys ≡ position_or_len q ys
      by [] = refl
      by (y ∷ ys) = ap (λ b. cond (not b) (1 + position_or_len p ys) 0) (same y)
          ∙ ap (λ n. cond (not (q y)) (1 + n) 0) (by ys)

  pub or-map : {Z : Type 0} (g : Y → Z) (h : X → Z) (d : Z) → ((x : X) → g (f x) ≡ h x) → (o : Option X)
      → option_map_or g (option_map f o) d ≡ option_map_or h o d
  or-map g h d same None = refl
  or-map g h d same (Some x) = same x

  pub then-map : {Z : Type 0} (g : Y → Option Z) (h : X → Option Z) → ((x : X) → g (f x) ≡ h x) → (o : Option X)
      → option_and_then g (option_map f o) ≡ option_and_then h o
  then-map g h same None = refl
  then-map g h same (Some x) = same x

  -- what stands at a place
  pub at-map : {Z : Type 0} (g : Y → Z) (h : X → Z) (d : Z) → ((x : X) → g (f x) ≡ h x) → (xs : List X) (k : ℕ)
      → option_map_or g (slice_get (map f xs) k) d ≡ option_map_or h (slice_get xs k) d
  at-map g h d same xs k = ap (λ o. option_map_or g o d) (slice_get-map f xs k) ∙ or-map g h d same (slice_get xs k)

  pub then_at-map : {Z : Type 0} (g : Y → Option Z) (h : X → Option Z) → ((x : X) → g (f x) ≡ h x)
      → (xs : List X) (k : ℕ)
      → option_and_then g (slice_get (map f xs) k) ≡ option_and_then h (slice_get xs k)
  then_at-map g h same xs k = ap (option_and_then g) (slice_get-map f xs k) ∙ then-map g h same (slice_get xs k)

each_from-same : {F : Type 0} (f g : ℕ → List (Line F)) → ((k : ℕ) → f k ≡ g k) → (from count : ℕ)
    → each_from f from count ≡ each_from g from count
unfolding each_from
each_from-same f g same from zero = refl
each_from-same f g same from (suc count) =
    ap (λ ls. ls ++ each_from f (from + 1) count) (same from)
    ∙ ap (λ ls. g from ++ ls) (each_from-same f g same (from + 1) count)

-- ---- look-ups

pub link_of-bare : (ls : List LinkRow) (vl : ℕ) → link_of (map bare_link ls) vl ≡ link_of ls vl
unfolding link_of
link_of-bare ls vl = position-map bare_link (λ l. nat_eq vl l.vl) ls

pub starts-bare : (t : Rows) (vl : ℕ) → starts (bare t) vl ≡ starts t vl
unfolding starts
starts-bare t vl =
    let from : LinkRow → Bool = λ l. nat_lt l.from t.own in
    ap (λ i. option_map_or from (option_and_then (slice_get (map bare_link t.links)) i) false) (link_of-bare t.links vl)
    ∙ by (link_of t.links vl)
  where
    by : (o : Option ℕ) → option_map_or (λ l. nat_lt l.from t.own)
        (option_and_then (slice_get (map bare_link t.links)) o) false
        ≡ option_map_or (λ l. nat_lt l.from t.own) (option_and_then (slice_get t.links) o) false
    by None = refl
    by (Some i) = at-map bare_link (λ l. nat_lt l.from t.own) (λ l. nat_lt l.from t.own) false (λ l. refl) t.links i

module _ (ss : List NamedRows) where
  abbrev pub bs : List NamedRows
  bs = map bare_switch ss

  pub switch_named-bare : (name : List ℕ) → switch_named bs name ≡ switch_named ss name
  unfolding switch_named
  switch_named-bare name = position-map bare_switch (λ s. bytes_eq name s.name) ss

  home_of-bare : (name : List ℕ) → home_of bs name ≡ home_of ss name
  unfolding home_of own_named
  home_of-bare name = position-map bare_switch (λ s. is_some (own_named s.rows name)) ss

  home_of_id-bare : (id : ℕ) → home_of_id bs id ≡ home_of_id ss id
  unfolding home_of_id own_has_id
  home_of_id-bare id = position-map bare_switch (λ s. own_has_id s.rows id) ss

  start_of-bare : (vl : ℕ) → start_of bs vl ≡ start_of ss vl
  unfolding start_of
  start_of-bare vl = position-map bare_switch (λ s. starts s.rows vl) ss
      ∙ position-same bare_switch (λ s. starts (bare s.rows) vl) (λ s. starts s.rows vl) (λ s. starts-bare s.rows vl) ss

  listed_at-bare : (name : List ℕ) (j : ℕ) → listed_at bs name j ≡ listed_at ss name j
  unfolding neighbour_named
  listed_at-bare name j =
      then_at-map bare_switch (λ s. neighbour_row s.rows name) (λ s. neighbour_row s.rows name) (λ s. refl) ss j

  -- ---- the lines

  abbrev named_line : List NamedRows → ℕ → NamedRows → List (Line FileFault)
  named_line xs k s = over_all_line (is_this (switch_named xs s.name) k) k (Twice (place part.Top 0 6)) ∷ []

  name_lines-bare : (k : ℕ) → name_lines bs k ≡ name_lines ss k
  unfolding name_lines
  name_lines-bare k = at-map bare_switch (named_line bs k) (named_line ss k) []
      (λ s. ap (λ o. over_all_line (is_this o k) k (Twice (place part.Top 0 6)) ∷ []) (switch_named-bare s.name)) ss k

  system-same : (k i : ℕ) (e : SystemRow) → lines_of_system bs k i e ≡ lines_of_system ss k i e
  system-same k i e =
      ap (λ o. over_all_line (not (is_some o) && is_this (home_of bs e.name) k) k (Twice (place part.System (i + 1) 1))
      ∷ over_all_line (is_this (home_of_id bs e.id) k) k (Twice (place part.System (i + 1) 3)) ∷ [])
      (switch_named-bare e.name)
      ∙ ap (λ o. over_all_line (not (is_some (switch_named ss e.name)) && is_this o k) k
      (Twice (place part.System (i + 1) 1))
      ∷ over_all_line (is_this (home_of_id bs e.id) k) k (Twice (place part.System (i + 1) 3)) ∷ [])
      (home_of-bare e.name)
      ∙ ap (λ o. over_all_line (not (is_some (switch_named ss e.name)) && is_this (home_of ss e.name) k) k
      (Twice (place part.System (i + 1) 1))
      ∷ over_all_line (is_this o k) k (Twice (place part.System (i + 1) 3)) ∷ []) (home_of_id-bare e.id)

  or-same : {X Z : Type 0} (g h : X → Z) (d : Z) → ((x : X) → g x ≡ h x) → (o : Option X)
      → option_map_or g o d ≡ option_map_or h o d
  or-same g h d same None = refl
  or-same g h d same (Some x) = same x

  system_lines-bare : (k i : ℕ) → system_lines bs k i ≡ system_lines ss k i
  unfolding system_lines
  system_lines-bare k i =
      ap (λ o. option_map_or (lines_of_system bs k i) o [])
      (then_at-map bare_switch (λ s. slice_get s.rows.systems i) (λ s. slice_get s.rows.systems i) (λ s. refl) ss k)
      ∙ or-same (lines_of_system bs k i) (lines_of_system ss k i) [] (system-same k i)
      (option_and_then (λ s. slice_get s.rows.systems i) (slice_get ss k))

  then-same : {X Z : Type 0} (g h : X → Option Z) → ((x : X) → g x ≡ h x) → (o : Option X)
      → option_and_then g o ≡ option_and_then h o
  then-same g h same None = refl
  then-same g h same (Some x) = same x

  neighbour-same : (name : List ℕ) (k i : ℕ) (e : SystemRow)
      → lines_of_neighbour bs name k i e ≡ lines_of_neighbour ss name k i e
  neighbour-same name k i e =
      ap (λ far. of far (option_and_then (listed_at bs name) far)) (switch_named-bare e.name)
      ∙ ap (λ back. of (switch_named ss e.name) back)
      (then-same (listed_at bs name) (listed_at ss name) (listed_at-bare name) (switch_named ss e.name))
    where
      of : Option ℕ → Option SystemRow → List (Line FileFault)
      of far back =
          over_all_line (is_some far && not (is_this far k)) k (NoSuchSystem (place part.Neighbour i 1))
          ∷ over_all_line (is_some back) k (OutOfRange (place part.Neighbour i 1))
          ∷ over_all_line (option_map_or (λ b. nat_eq b.rate e.rate) back false) k
          (OutOfRange (place part.Neighbour i 3))
          ∷ []

  neighbour_lines-bare : (k i : ℕ) → neighbour_lines bs k i ≡ neighbour_lines ss k i
  unfolding neighbour_lines
  neighbour_lines-bare k i = at-map bare_switch (at-switch bs) (at-switch ss) []
      (λ s. or-same (lines_of_neighbour bs s.name k (i - s.rows.own + 1))
      (lines_of_neighbour ss s.name k (i - s.rows.own + 1))
      [] (neighbour-same s.name k (i - s.rows.own + 1)) (slice_get s.rows.systems i)) ss k
    where
      at-switch : List NamedRows → NamedRows → List (Line FileFault)
      at-switch xs s = option_map_or (lines_of_neighbour xs s.name k (i - s.rows.own + 1))
          (slice_get s.rows.systems i) []

  start_lines-bare : (k i : ℕ) → start_lines bs k i ≡ start_lines ss k i
  unfolding start_lines
  start_lines-bare k i = at-map bare_switch (at-switch bs) (at-switch ss) []
      (λ s. at-map bare_link (lines_of_start bs s.rows.own k i) (lines_of_start ss s.rows.own k i) []
      (λ l. ap (λ o. over_all_line (nat_le s.rows.own l.from || is_this o k) k (Twice (place part.Link (i + 1) 2)) ∷ [])
      (start_of-bare l.vl)) s.rows.links i) ss k
    where
      at-switch : List NamedRows → NamedRows → List (Line FileFault)
      at-switch xs s = option_map_or (lines_of_start xs s.rows.own k i) (slice_get s.rows.links i) []

  -- ---- of one switch, and of all

  systems_lines-bare : (k : ℕ) → systems_lines bs k ≡ systems_lines ss k
  unfolding systems_lines
  systems_lines-bare k = at-map bare_switch (λ s. each_from (system_lines bs k) 0 s.rows.own)
      (λ s. each_from (system_lines ss k) 0 s.rows.own) []
      (λ s. each_from-same (system_lines bs k) (system_lines ss k) (system_lines-bare k) 0 s.rows.own) ss k

  neighbours_lines-bare : (k : ℕ) → neighbours_lines bs k ≡ neighbours_lines ss k
  unfolding neighbours_lines
  neighbours_lines-bare k = at-map bare_switch
      (λ s. each_from (neighbour_lines bs k) s.rows.own (length s.rows.systems - s.rows.own))
      (λ s. each_from (neighbour_lines ss k) s.rows.own (length s.rows.systems - s.rows.own)) []
      (λ s. each_from-same (neighbour_lines bs k) (neighbour_lines ss k) (neighbour_lines-bare k) s.rows.own
      (length s.rows.systems - s.rows.own)) ss k

  starts_lines-bare : (k : ℕ) → starts_lines bs k ≡ starts_lines ss k
  unfolding starts_lines
  starts_lines-bare k = at-map bare_switch
      (λ s. each_from (start_lines bs k) 0 (length s.rows.links))
      (λ s. each_from (start_lines ss k) 0 (length s.rows.links)) []
      (λ s. ap (each_from (start_lines bs k) 0) (length-map s.rows.links bare_link)
      ∙ each_from-same (start_lines bs k) (start_lines ss k) (start_lines-bare k) 0 (length s.rows.links)) ss k

  pub over_all-bare : over_all bs ≡ over_all ss
  unfolding over_all
  over_all-bare =
      let n = length-map ss bare_switch in
      both (name_lines bs) (name_lines ss) name_lines-bare n
      (both (systems_lines bs) (systems_lines ss) systems_lines-bare n
      (both (neighbours_lines bs) (neighbours_lines ss) neighbours_lines-bare n
      (ap (each_from (starts_lines bs) 0) n
      ∙ each_from-same (starts_lines bs) (starts_lines ss) starts_lines-bare 0 (length ss))))
    where
      both : (f g : ℕ → List (Line FileFault)) → ((k : ℕ) → f k ≡ g k) → length bs ≡ length ss
          → {xs ys : List (Line FileFault)} → xs ≡ ys
          → each_from f 0 (length bs) ++ xs ≡ each_from g 0 (length ss) ++ ys
      both f g same n {xs} {ys} e =
          ap (λ m. each_from f 0 m ++ xs) n
          ∙ ap (λ ls. ls ++ xs) (each_from-same f g same 0 (length ss))
          ∙ ap (λ ls. each_from g 0 (length ss) ++ ls) e

-- switches that are alike: the lines over all are the same
pub over_all-alike : (a b : List NamedRows) → AreAlike a b → over_all a ≡ over_all b
over_all-alike a b same = sym (over_all-bare a) ∙ ap over_all same ∙ over_all-bare b
