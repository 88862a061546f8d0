-- An arrival comes to the ports of its link, one after another.
use Rattle.std.proofs.Common.{◌≡◌, ℕ, zero, suc, ◌<◌, Bool, true, false, ◌&&◌, ◌||◌, List, [], ◌∷◌, ◌++◌, map, length, take, get_or, refl, sym, ap, ◌∙◌, subst, arith, true≢false}
use Rattle.std.proofs.lemmas.Bool.{and_parts, eqb-true, eq-eqb}
use Rattle.std.proofs.lemmas.List.Elements.{All-from_recursion}
use Rattle.std.proofs.lemmas.List.Folds.{list_any-append}
use Rattle.std.proofs.lemmas.Option.{same_Some, slice_get-get_or}
use Rattle.std.specs.Prelude.{Some, nat_eq, not, slice_get, if◌then◌else◌}
use Rattle.std.specs.List.{list_any, AllByRecursion}
use Rattle.afdx_law_bounds.specs.Tables.{port_of}
use Rattle.afdx_config.proofs.LookUpLemmas.{each_row-found}
use Rattle.afdx_config.specs.Lawful.{IsLawfulSwitch, IsLinkUpTo, jitter_from_any}
use Rattle.afdx_config.specs.Reading.{are_apart, has_repeat, system_at_port}
use Rattle.afdx_config.specs.Rows.{LinkRow, Rows}
use Rattle.afdx_frame.proofs.ListLemmas.{AllByRecursion-slice_get}
use Rattle.afdx_frame.specs.declared.link.Side.{Side}
use Rattle.afdx_frame.specs.Sides.{is_side}
use Rattle.afdx_police.specs.Arrival.{Arrival}
use Rattle.afdx_command_conform.specs.Keeping.{Given, came_to, given_with, with_came}
use Rattle.afdx_command_conform.specs.Keys.{is_key, is_link, key_with}
use Rattle.afdx_command_conform.specs.declared.key.Key.{Key}
use Rattle.afdx_command_conform.proofs.KeyLemmas.{no-system}
use Rattle.afdx_command_conform.proofs.OutletLemmas.{port-is}

-- ---- one port of a link after another

came-bools : (s b n a : Bool) (f : Given → Given) (g : Given) → (n ≡ true → a ≡ false)
    → (if s && b && (a || (n || false)) then f g else g)
    ≡ (if s && n && b then f (if s && b && a then f g else g) else (if s && b && a then f g else g))
came-bools false b n a f g h = refl
came-bools true false false a f g h = refl
came-bools true false true a f g h = refl
came-bools true true false false f g h = refl
came-bools true true false true f g h = refl
came-bools true true true false f g h = refl
came-bools true true true true f g h = absurd (true≢false (h refl))

pub came-step : (side : Side) (place port : ℕ) (ports : List ℕ) (x : Arrival) (given : Key → Given) (k : Key)
    → list_any (λ q. nat_eq q port) ports ≡ false
    → came_to side place (ports ++ port ∷ []) x given k
    ≡ with_came (key_with side port (Some place)) x (came_to side place ports x given) k
unfolding is_key
came-step side place port ports x given k fresh =
    let f : Given → Given = λ g. given_with (g.came ++ x ∷ []) g.left g.strange in
    ap (λ v. if is_side side k.side && is_link (Some place) k.link && v then f (given k) else given k)
    (list_any-append (λ q. nat_eq q k.port) ports (port ∷ []))
    ∙ came-bools (is_side side k.side) (is_link (Some place) k.link) (nat_eq port k.port)
    (list_any (λ q. nat_eq q k.port) ports)
    f (given k) (λ e. subst (λ p. list_any (λ q. nat_eq q p) ports ≡ false) (eqb-true port k.port e) fresh)

last-false : {X : Type 0} (b : Bool) (u v : X) → (if b && false then u else v) ≡ v
last-false true u v = refl
last-false false u v = refl

pub came-key : (side : Side) (place port : ℕ) (ports : List ℕ) (x : Arrival) (given : Key → Given)
    → list_any (λ q. nat_eq q port) ports ≡ false
    → came_to side place ports x given (key_with side port (Some place)) ≡ given (key_with side port (Some place))
came-key side place port ports x given fresh =
    let k = key_with side port (Some place) in
    ap (λ v. if is_side side k.side && is_link (Some place) k.link && v
    then given_with ((given k).came ++ x ∷ []) (given k).left (given k).strange else given k) fresh
    ∙ last-false (is_side side side && is_link (Some place) (Some place))
    (given_with ((given k).came ++ x ∷ []) (given k).left (given k).strange) (given k)

pub came-strange : (side : Side) (place : ℕ) (ports : List ℕ) (x : Arrival) (given : Key → Given) (k : Key)
    → (came_to side place ports x given k).strange ≡ (given k).strange
came-strange side place ports x given k =
    by (is_side side k.side && is_link (Some place) k.link && list_any (λ q. nat_eq q k.port) ports)
  where
    by : (v : Bool) → (if v then given_with ((given k).came ++ x ∷ []) (given k).left (given k).strange
        else given k).strange
        ≡ (given k).strange
    by true = refl
    by false = refl

pub none-yet : (side : Side) (place : ℕ) (x : Arrival) (given : Key → Given) (k : Key)
    → came_to side place [] x given k ≡ given k
none-yet side place x given k = last-false (is_side side k.side && is_link (Some place) k.link)
    (given_with ((given k).came ++ x ∷ []) (given k).left (given k).strange) (given k)

or-parts : (a b : Bool) → (a || b) ≡ false → (a ≡ false) × (b ≡ false)
or-parts true b e = absurd (true≢false e)
or-parts false b e = (refl, e)

any-at : (d : ℕ) (to : List ℕ) (i s : ℕ) → list_any (λ j. nat_eq j d) to ≡ false → s ≡ get_or to i s → i < length to
    → nat_eq s d ≡ false
any-at d [] i s none is lt = absurd (omega (arith, lt))
any-at d (j ∷ to) zero s none is lt =
    ap (λ n. nat_eq n d) is ∙ (or-parts (nat_eq j d) (list_any (λ j'. nat_eq j' d) to) none).0
any-at d (j ∷ to) (suc i) s none is lt =
    any-at d to i s (or-parts (nat_eq j d) (list_any (λ j'. nat_eq j' d) to) none).1 is (omega (arith, lt))

-- a port isn't that of a system before it
pub fresh-at : (t : Rows) (to : List ℕ) (i s : ℕ) → IsLawfulSwitch t → AllByRecursion (λ j. j < length t.systems) to
    → has_repeat to ≡ false → s ≡ get_or to i s → i < length to
    → list_any (λ q. nat_eq q (port_of t s)) (map (port_of t) (take i to)) ≡ false
fresh-at t [] i s lawful all once is lt = absurd (omega (arith, lt))
fresh-at t (d ∷ to) zero s lawful all once is lt = refl
fresh-at t (d ∷ to) (suc i) s lawful all once is lt =
    let parts = or-parts (list_any (λ j. nat_eq j d) to) (has_repeat to) once in
    let within : i < length to = omega (arith, lt) in
    both (nat_eq (port_of t d) (port_of t s)) (list_any (λ q. nat_eq q (port_of t s)) (map (port_of t) (take i to)))
    (other-port d s all.0 (member to i s all.1 is within) (any-at d to i s parts.0 is within))
    (fresh-at t to i s lawful all.1 parts.1 is within)
  where
    both : (a b : Bool) → a ≡ false → b ≡ false → (a || b) ≡ false
    both true b e h = absurd (true≢false e)
    both false b e h = h

    member : (xs : List ℕ) (j x : ℕ) → AllByRecursion (λ n. n < length t.systems) xs → x ≡ get_or xs j x → j < length xs
        → x < length t.systems
    member xs j x all' is' lt' = subst (λ n. n < length t.systems) (sym is')
        (All-from_recursion (λ n. n < length t.systems) xs all' j x lt')

    other-port : (a b : ℕ) → a < length t.systems → b < length t.systems → nat_eq b a ≡ false
        → nat_eq (port_of t a) (port_of t b) ≡ false
    other-port a b wa wb other = by (nat_eq (port_of t a) (port_of t b)) refl
      where
        by : (v : Bool) → nat_eq (port_of t a) (port_of t b) ≡ v → nat_eq (port_of t a) (port_of t b) ≡ false
        by false e = e
        by true e =
            let ra = slice_get-get_or t.systems a no-system wa in
            let rb = slice_get-get_or t.systems b no-system wb in
            let sa = get_or t.systems a no-system in
            let sb = get_or t.systems b no-system in
            let ports : sa.port ≡ sb.port = sym (port-is t a sa ra) ∙ eqb-true (port_of t a) (port_of t b) e
            ∙ port-is t b sb rb in
            let same : b ≡ a = same_Some b a (sym ((each_row-found t lawful).by_port b sb rb)
            ∙ ap (λ p. system_at_port t.systems p) (sym ports) ∙ (each_row-found t lawful).by_port a sa ra) in
            absurd (true≢false (sym (eq-eqb b a same) ∙ other))

pub apart-once : (from : ℕ) (to : List ℕ) → are_apart from to ≡ true → has_repeat to ≡ false
unfolding are_apart
apart-once from to e = by (has_repeat to) (and_parts (not (list_any (λ j. nat_eq j from) to)) (not (has_repeat to)) e).1
  where
    by : (v : Bool) → not v ≡ true → v ≡ false
    by false h = refl
    by true h = absurd (true≢false (sym h))

-- the port of a link's system isn't that of one before it
pub fresh-port : (t : Rows) (place : ℕ) (row : LinkRow) (rank s : ℕ) → IsLawfulSwitch t → slice_get t.links place
    ≡ Some row
    → s ≡ get_or row.to rank s → rank < length row.to
    → list_any (λ q. nat_eq q (port_of t s)) (map (port_of t) (take rank row.to)) ≡ false
fresh-port t place row rank s lawful at is lt =
    let l = AllByRecursion-slice_get (IsLinkUpTo jitter_from_any (length t.systems)) t.links place row
    lawful.links.each at in
    fresh-at t row.to rank s lawful l.to (apart-once row.from row.to l.apart) is lt
