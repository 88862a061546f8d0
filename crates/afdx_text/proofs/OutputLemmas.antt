-- What is known of bytes that were written.
use Rattle.std.proofs.Common.{ℕ, List, [], Some, None, refl, sym, ◌∙◌}
use Rattle.std.proofs.Common.{append-nil, append_assoc, ap, ◌++◌, take, drop, take-append-drop}
use Rattle.std.specs.Prelude.{Option, OnErr, Result, Ok, Err}
use Rattle.std.specs.Io.KnownBytes.{Appends, Keeps}
use Rattle.std.proofs.KnownBytes.{Appends-trans}
use Rattle.afdx_input_lines.specs.Calls.{AppendsFront}

pub kept_appends : (a b c : Option (List ℕ)) (x : List ℕ) → Appends a b x → Keeps b c → Appends a c x
kept_appends None b c x p q = tt
kept_appends (Some a) None c x p q = absurd p
kept_appends (Some a) (Some b) None x p q = absurd q
kept_appends (Some a) (Some b) (Some c) x p q = q ∙ p

pub none_front : (a b : Option (List ℕ)) (x : List ℕ) → Keeps a b → AppendsFront a b x
none_front None b x p = ([], x, refl, tt)
none_front (Some a) None x p = absurd p
none_front (Some a) (Some b) x p = ([], x, refl, p ∙ sym (append-nil a))

pub whole_front : (a b : Option (List ℕ)) (x : List ℕ) → Appends a b x → AppendsFront a b x
whole_front a b x p = (x, [], sym (append-nil x), p)

-- of a text the first bytes, so many
pub some_front : (a b : Option (List ℕ)) (x : List ℕ) (n : ℕ) → Appends a b (take n x) → AppendsFront a b x
some_front a b x n p = (take n x, drop n x, sym (take-append-drop n x), p)

-- what is true is so where the answer is an error
pub on-err : {V E : Type 0} (r : Result V E) (P : Type 0) → P → OnErr r P
on-err (Ok v) P p = tt
on-err (Err e) P p = p

-- a beginning of a text, or the whole of it and a beginning of more
pub front-longer : (a b : Option (List ℕ)) (x y : List ℕ) → AppendsFront a b x → AppendsFront a b (x ++ y)
front-longer a b x y h = (h.0, h.1 ++ y, ap (λ (l : List ℕ). l ++ y) h.2 ∙ append_assoc h.0 h.1 y, h.3)

pub front-more : (a b c : Option (List ℕ)) (x y : List ℕ) → Appends a b x → AppendsFront b c y
    → AppendsFront a c (x ++ y)
front-more a b c x y first h = (
  x ++ h.0,
  h.1,
  ap (λ (l : List ℕ). x ++ l) h.2 ∙ sym (append_assoc x h.0 h.1),
  Appends-trans a b c x h.0 first h.3,
)
