-- Options one by one.
use Rattle.std.proofs.Common.{◌≡◌, Bool, true, false, eqb, ltb, ℕ, zero, suc, ◌+◌, ◌<◌, ◌≤◌, cond, List, [], ◌∷◌, length, take, drop}
use Rattle.std.proofs.Common.{refl, ap, sym, ◌∙◌, arith, subst, Option, Some, None, is_some, option_map, option_and_then, ◌≢◌}
use Rattle.std.proofs.lemmas.Grind.{common_steps}
use Rattle.std.proofs.lemmas.Bool.{false≢true, true≢false}
use Rattle.afdx_input_files.specs.declared.order.Order.{Order}
use Rattle.afdx_input_files.specs.declared.options.NextOption.{NextOption}
use Rattle.afdx_input_files.specs.declared.options.NextOption.TheVariants.{Last, Broken, Next}
use Rattle.afdx_input_files.specs.Orders.{number_in, half_at}
use Rattle.afdx_input_files.proofs.OrderLemmas.{number_at-take}
use Rattle.afdx_input_files.specs.Options.{filled, next_option, Coded, by_option, options_within, options_in, first_said, said}

-- an option that stands next ends within the bytes
abbrev EndsWithin : List ℕ → NextOption → Type 0
EndsWithin bytes (Next code n) = 4 + filled n ≤ length bytes
EndsWithin bytes Last = Unit {0}
EndsWithin bytes Broken = Unit {0}

either : (bytes : List ℕ) (b : Bool) (x y : NextOption) → EndsWithin bytes x → EndsWithin bytes y
    → EndsWithin bytes (cond b x y)
either bytes true x y h k = h
either bytes false x y h k = k

last_within : (bytes : List ℕ) (code n : ℕ) (b : Bool) → ltb (length bytes) (4 + filled n) ≡ b
    → EndsWithin bytes (cond b Broken (Next code n))
last_within bytes code n true e = tt
last_within bytes code n false e = grind (arith, e)

ends_within : (order : Order) (bytes : List ℕ) → EndsWithin bytes (next_option order bytes)
unfolding next_option
ends_within order bytes =
    let end = last_within bytes (half_at order 0 bytes) (half_at order 2 bytes)
    (ltb (length bytes) (4 + filled (half_at order 2 bytes))) refl in
    either bytes (eqb (length bytes) 0) Last _ tt
    (either bytes (ltb (length bytes) 4) Broken _ tt
    (either bytes (eqb (half_at order 0 bytes) 0) Last _ tt end))

pub next_option-within : (order : Order) (bytes : List ℕ) (code n : ℕ) → next_option order bytes ≡ Next code n
    → 4 + filled n ≤ length bytes
next_option-within order bytes code n e = subst (EndsWithin bytes) e (ends_within order bytes)

by_option-same : (f g : List ℕ → Option (List Coded)) (bytes : List ℕ) (next : NextOption)
    → ((code n : ℕ) → next ≡ Next code n → f (drop (4 + filled n) bytes) ≡ g (drop (4 + filled n) bytes))
    → by_option f bytes next ≡ by_option g bytes next
by_option-same f g bytes Last h = refl
by_option-same f g bytes Broken h = refl
by_option-same f g bytes (Next code n) h =
    let coded : Coded = record { code = code; value = take n (drop 4 bytes) } in
    ap (option_map (λ (rest : List Coded). coded ∷ rest)) (h code n refl)

fewer : (bytes : List ℕ) (n : ℕ) → 4 + n ≤ length bytes → length (drop (4 + n) bytes) < length bytes
fewer bytes n within = grind (arith, common_steps)

options_within-more : (n m : ℕ) (order : Order) (bytes : List ℕ) → length bytes < n → length bytes < m
    → options_within n order bytes ≡ options_within m order bytes
options_within-more zero m order bytes a b = absurd (omega (arith, a))
options_within-more (suc n) zero order bytes a b = absurd (omega (arith, b))
options_within-more (suc n) (suc m) order bytes a b =
    by_option-same (options_within n order) (options_within m order) bytes (next_option order bytes)
    (λ code k e.
    let less = fewer bytes (filled k) (next_option-within order bytes code k e) in
    options_within-more n m order (drop (4 + filled k) bytes) (omega (arith, less, a)) (omega (arith, less, b)))

-- all options are the next and then those behind it
pub options_in-step : (order : Order) (bytes : List ℕ)
    → options_in order bytes ≡ by_option (options_in order) bytes (next_option order bytes)
unfolding options_in
options_in-step order bytes =
    by_option-same (options_within (length bytes) order) (options_in order) bytes (next_option order bytes)
    (λ code k e.
    let less = fewer bytes (filled k) (next_option-within order bytes code k e) in
    options_within-more (length bytes) (suc (length (drop (4 + filled k) bytes))) order (drop (4 + filled k) bytes)
    less (omega arith))

pub options_in-last : (order : Order) (bytes : List ℕ) → next_option order bytes ≡ Last
    → options_in order bytes ≡ Some []
options_in-last order bytes e = options_in-step order bytes ∙ ap (by_option (options_in order) bytes) e

pub options_in-broken : (order : Order) (bytes : List ℕ) → next_option order bytes ≡ Broken
    → options_in order bytes ≡ None
options_in-broken order bytes e = options_in-step order bytes ∙ ap (by_option (options_in order) bytes) e

abbrev coded_at : ℕ → ℕ → List ℕ → Coded
coded_at code n bytes = record { code = code; value = take n (drop 4 bytes) }

options_in-next : (order : Order) (bytes : List ℕ) (code n : ℕ) → next_option order bytes ≡ Next code n
    → options_in order bytes ≡ option_map (λ (rest : List Coded). coded_at code n bytes ∷ rest)
    (options_in order (drop (4 + filled n) bytes))
options_in-next order bytes code n e = options_in-step order bytes ∙ ap (by_option (options_in order) bytes) e

map_some : (f : List Coded → List Coded) (o : Option (List Coded)) → is_some (option_map f o) ≡ is_some o
map_some f None = refl
map_some f (Some x) = refl

-- they are whole as those behind it are
pub whole-next : (order : Order) (bytes : List ℕ) (code n : ℕ) → next_option order bytes ≡ Next code n
    → is_some (options_in order (drop (4 + filled n) bytes)) ≡ is_some (options_in order bytes)
whole-next order bytes code n e =
    sym (ap is_some (options_in-next order bytes code n e)
    ∙ map_some (λ (rest : List Coded). coded_at code n bytes ∷ rest) (options_in order (drop (4 + filled n) bytes)))

pub said-last : (order : Order) (code size : ℕ) (bytes : List ℕ) → next_option order bytes ≡ Last
    → said order code size bytes ≡ Some None
unfolding said
said-last order code size bytes e = ap (option_and_then (first_said order code size)) (options_in-last order bytes e)

-- no bytes say nothing
pub said-none : (order : Order) (code size : ℕ) (bytes : List ℕ) → length bytes ≡ 0
    → said order code size bytes ≡ Some None
unfolding said options_in next_option
said-none order code size [] h = refl
said-none order code size (b ∷ bytes) h = absurd (omega arith)

pub said-broken : (order : Order) (code size : ℕ) (bytes : List ℕ) → is_some (options_in order bytes) ≡ false
    → said order code size bytes ≡ None
unfolding said
said-broken order code size bytes h = by (options_in order bytes) h
  where
    by : (o : Option (List Coded)) → is_some o ≡ false → option_and_then (first_said order code size) o ≡ None
    by None h = refl
    by (Some x) h = absurd (true≢false h)

other : (order : Order) (code size : ℕ) (first : Coded) (o : Option (List Coded)) → eqb first.code code ≡ false
    → option_and_then (first_said order code size) (option_map (λ (rest : List Coded). first ∷ rest) o)
    ≡ option_and_then (first_said order code size) o
other order code size first None h = refl
other order code size first (Some rest) h = rw h refl

-- an option of another code says nothing
pub said-other : (order : Order) (code size : ℕ) (bytes : List ℕ) (found n : ℕ)
    → next_option order bytes ≡ Next found n → eqb found code ≡ false
    → said order code size (drop (4 + filled n) bytes) ≡ said order code size bytes
unfolding said
said-other order code size bytes found n e h =
    sym (ap (option_and_then (first_said order code size)) (options_in-next order bytes found n e)
    ∙ other order code size (coded_at found n bytes) (options_in order (drop (4 + filled n) bytes)) h)

same : (n : ℕ) → eqb n n ≡ true
same n = grind arith

found_here : (order : Order) (code size : ℕ) (first : Coded) (o : Option (List Coded)) → first.code ≡ code
    → is_some o ≡ true
    → option_and_then (first_said order code size) (option_map (λ (rest : List Coded). first ∷ rest) o)
    ≡ cond (eqb (length first.value) size) (Some (Some (number_in order size first.value))) None
found_here order code size first None h whole = absurd (false≢true whole)
found_here order code size first (Some rest) h whole = rw (h, same code) refl

-- the first of the code says it
pub said-here : (order : Order) (code size : ℕ) (bytes : List ℕ) (n : ℕ)
    → next_option order bytes ≡ Next code n → is_some (options_in order bytes) ≡ true
    → said order code size bytes
    ≡ cond (eqb (length (take n (drop 4 bytes))) size) (Some (Some (number_in order size (take n (drop 4 bytes))))) None
unfolding said
said-here order code size bytes n e whole =
    ap (option_and_then (first_said order code size)) (options_in-next order bytes code n e)
    ∙ found_here order code size (coded_at code n bytes) (options_in order (drop (4 + filled n) bytes)) refl
    (whole-next order bytes code n e ∙ whole)

-- so many bytes are filled up to no less
pub filled-least : (n : ℕ) → n ≤ filled n
unfolding filled
filled-least n = omega arith

long : (n : ℕ) (bytes : List ℕ) → 4 + filled n ≤ length bytes → length (take n (drop 4 bytes)) ≡ n
long n bytes within = let least = filled-least n in grind (arith, common_steps)

pub said-wrong : (order : Order) (code size : ℕ) (bytes : List ℕ) (n : ℕ)
    → next_option order bytes ≡ Next code n → is_some (options_in order bytes) ≡ true → n ≢ size
    → said order code size bytes ≡ None
said-wrong order code size bytes n e whole h =
    let size_is = long n bytes (next_option-within order bytes code n e) in
    let differs : eqb n size ≡ false = grind (arith, h) in
    said-here order code size bytes n e whole ∙ rw (size_is, differs) refl

pub said-number : (order : Order) (code size : ℕ) (bytes : List ℕ)
    → next_option order bytes ≡ Next code size → is_some (options_in order bytes) ≡ true
    → said order code size bytes ≡ Some (Some (number_in order size (drop 4 bytes)))
said-number order code size bytes e whole =
    let within = next_option-within order bytes code size e in
    let size_is = long size bytes within in
    let least = filled-least size in
    let enough : 0 + size ≤ size = omega arith in
    let held : size ≤ length (drop 4 bytes) = grind (arith, common_steps) in
    said-here order code size bytes size e whole
    ∙ rw (size_is, same size) (ap (λ (n : ℕ). Some (Some n))
    (number_at-take order size 0 size (drop 4 bytes) enough held))

-- the bytes behind the next option
pub behind_next : (place n : ℕ) (bytes : List ℕ)
    → drop (4 + filled n) (drop place bytes) ≡ drop (place + (4 + filled n)) bytes
behind_next place n bytes = grind (arith, common_steps)

-- it ends within all bytes
pub ends_at : (order : Order) (place code n : ℕ) (bytes : List ℕ) → place ≤ length bytes
    → next_option order (drop place bytes) ≡ Next code n → place + (4 + filled n) ≤ length bytes
ends_at order place code n bytes within e =
    let size : length (drop place bytes) + place ≡ length bytes = grind (arith, common_steps) in
    omega (arith, size, next_option-within order (drop place bytes) code n e)
