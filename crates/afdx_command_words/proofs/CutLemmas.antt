-- A text, cut at the first byte that is one.
use Rattle.std.proofs.Common.{◌≡◌, ◌≢◌, ◌<◌, ◌++◌, ℕ, zero, suc, List, [], ◌∷◌, length, get_or, true, false}
use Rattle.std.proofs.Common.{refl, sym, ap, arith, ◌∙◌}
use Rattle.std.specs.List.{list_all}
use Rattle.std.specs.Char.{is_ascii_alphanumeric}
use Rattle.std.specs.Str.Parse.{AllDigits}
use Rattle.std.proofs.lemmas.List.Sums.{AllPass-from_list_all}
use Rattle.std.proofs.lemmas.Str.Parse.{digit_at}

-- no byte of the text is c
abbrev pub Lacks : ℕ → List ℕ → Type 0
Lacks c text = (i : ℕ) → i < length text → get_or text i 0 ≢ c

pub apart : {Y : Type 0} (x y : ℕ) (xs ys : List ℕ) → x ≢ y → x ∷ xs ≡ y ∷ ys → Y
apart x y xs ys ne e = absurd (ne (ap (λ (l : List ℕ). get_or l 0 0) e))

pub lacks-none : (c : ℕ) → Lacks c []
lacks-none c i h = absurd (omega arith)

pub lacks-more : (c x : ℕ) (xs : List ℕ) → x ≢ c → Lacks c xs → Lacks c (x ∷ xs)
lacks-more c x xs ne h zero lt = ne
lacks-more c x xs ne h (suc i) lt = h i (omega arith)

lacks-tail : (c x : ℕ) (xs : List ℕ) → Lacks c (x ∷ xs) → Lacks c xs
lacks-tail c x xs h i lt = h (suc i) (omega arith)

pub lacks-cut : {Y : Type 0} (c : ℕ) (a b : List ℕ) → Lacks c (a ++ c ∷ b) → Y
lacks-cut c [] b h = absurd (h 0 (omega arith) refl)
lacks-cut c (x ∷ a) b h = lacks-cut c a b (lacks-tail c x (a ++ c ∷ b) h)

pub cut-once : (c : ℕ) (a b x y : List ℕ) → Lacks c a → Lacks c x → a ++ c ∷ b ≡ x ++ c ∷ y → (a ≡ x) × (b ≡ y)
cut-once c [] b [] y h k e = (refl, cc)
cut-once c [] b (n ∷ x) y h k e = let same : n ≡ c = cc in absurd (k 0 (omega arith) same)
cut-once c (n ∷ a) b [] y h k e = let same : n ≡ c = cc in absurd (h 0 (omega arith) same)
cut-once c (n ∷ a) b (m ∷ x) y h k e =
    let head : n ≡ m = cc in
    let tail : a ++ c ∷ b ≡ x ++ c ∷ y = cc in
    let rest = cut-once c a b x y (lacks-tail c n a h) (lacks-tail c m x k) tail in
    (cc (head, rest.0), rest.1)

-- digits are no other bytes
pub lacks-digits : (c : ℕ) (digits : List ℕ) → AllDigits 10 digits → 57 < c → Lacks c digits
lacks-digits c digits all high i lt e = let d = digit_at digits i all lt in omega (arith, d, e, high)

-- nor are letters and digits
pub lacks-alphanumeric : (c : ℕ) (name : List ℕ) → list_all is_ascii_alphanumeric name ≡ true
    → is_ascii_alphanumeric c ≡ false → Lacks c name
lacks-alphanumeric c name all other i lt e =
    let one : is_ascii_alphanumeric (get_or name i 0) ≡ true =
    AllPass-from_list_all is_ascii_alphanumeric name all i 0 lt in
    let same : is_ascii_alphanumeric (get_or name i 0) ≡ is_ascii_alphanumeric c = ap is_ascii_alphanumeric e in
    let wrong : true ≡ false = sym one ∙ same ∙ other in
    cc
