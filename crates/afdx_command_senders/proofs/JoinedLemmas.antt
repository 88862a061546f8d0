-- What is told of a switch and of the systems that send to it has one order.
use Rattle.std.proofs.Common.{◌≡◌, ◌≤◌, List, [], ◌∷◌, refl, sym, ap, ap₂, ◌∙◌, arith}
use Rattle.afdx_senders.specs.Lines.{Line}
use Rattle.afdx_command_conform.specs.Lines.{Due}
use Rattle.afdx_command_senders.specs.BothTold.{AreInOrder, JoinedIsOne, OfSender, OfSwitch, Told, rank, senders_of, switch_of}

first-line : (x y : Line) (xs ys : List Line) → x ∷ xs ≡ y ∷ ys → x ≡ y
first-line x y xs ys e = cc

rest-lines : (x y : Line) (xs ys : List Line) → x ∷ xs ≡ y ∷ ys → xs ≡ ys
rest-lines x y xs ys e = cc

first-due : (x y : Due) (xs ys : List Due) → x ∷ xs ≡ y ∷ ys → x ≡ y
first-due x y xs ys e = cc

rest-dues : (x y : Due) (xs ys : List Due) → x ∷ xs ≡ y ∷ ys → xs ≡ ys
rest-dues x y xs ys e = cc

-- no line of its part comes behind the newest
line-below : (all : List Told) (y : Told) (x : Line) (rest : List Line) → AreInOrder (y ∷ all)
    → senders_of all ≡ x ∷ rest → rank (OfSender x) ≤ rank y
unfolding AreInOrder senders_of
line-below [] y x rest order is = absurd (cc)
line-below (OfSender v ∷ all) y x rest order is =
    let le = order.0 in
    let same = ap (λ (w : Line). rank (OfSender w)) (first-line v x (senders_of all) rest is) in
    omega (arith, le, same)
line-below (OfSwitch d ∷ all) y x rest order is =
    let le = order.0 in
    let less = line-below all (OfSwitch d) x rest order.1 is in
    omega (arith, le, less)

due-below : (all : List Told) (y : Told) (d : Due) (rest : List Due) → AreInOrder (y ∷ all)
    → switch_of all ≡ d ∷ rest → rank (OfSwitch d) ≤ rank y
unfolding AreInOrder switch_of
due-below [] y d rest order is = absurd (cc)
due-below (OfSwitch v ∷ all) y d rest order is =
    let le = order.0 in
    let same = ap (λ (w : Due). rank (OfSwitch w)) (first-due v d (switch_of all) rest is) in
    omega (arith, le, same)
due-below (OfSender x ∷ all) y d rest order is =
    let le = order.0 in
    let less = due-below all (OfSender x) d rest order.1 is in
    omega (arith, le, less)

-- a system's is never at the place of the switch's
two-ranks : (x : Line) (d : Due) → rank (OfSender x) ≡ rank (OfSwitch d) → ⊥
two-ranks x d e = omega (arith, e)

one-order : (a b : List Told) → AreInOrder a → AreInOrder b → senders_of a ≡ senders_of b → switch_of a ≡ switch_of b
    → a ≡ b
unfolding AreInOrder senders_of switch_of
one-order [] [] oa ob s w = refl
one-order [] (OfSender x ∷ b) oa ob s w = absurd (cc)
one-order [] (OfSwitch d ∷ b) oa ob s w = absurd (cc)
one-order (OfSender x ∷ a) [] oa ob s w = absurd (cc)
one-order (OfSwitch d ∷ a) [] oa ob s w = absurd (cc)
one-order (OfSender x ∷ a) (OfSender y ∷ b) oa ob s w =
    ap₂ (λ (v : Line) (l : List Told). OfSender v ∷ l) (first-line x y (senders_of a) (senders_of b) s)
    (one-order a b oa.1 ob.1 (rest-lines x y (senders_of a) (senders_of b) s) w)
one-order (OfSwitch d ∷ a) (OfSwitch e ∷ b) oa ob s w =
    ap₂ (λ (v : Due) (l : List Told). OfSwitch v ∷ l) (first-due d e (switch_of a) (switch_of b) w)
    (one-order a b oa.1 ob.1 s (rest-dues d e (switch_of a) (switch_of b) w))
one-order (OfSender x ∷ a) (OfSwitch d ∷ b) oa ob s w =
    let one = line-below b (OfSwitch d) x (senders_of a) ob (sym s) in
    let two = due-below a (OfSender x) d (switch_of b) oa w in
    absurd (two-ranks x d (omega (arith, one, two)))
one-order (OfSwitch d ∷ a) (OfSender x ∷ b) oa ob s w =
    let one = line-below a (OfSwitch d) x (senders_of b) oa s in
    let two = due-below b (OfSender x) d (switch_of a) ob (sym w) in
    absurd (two-ranks x d (omega (arith, one, two)))

pub joined-one : JoinedIsOne
joined-one told dues a b h k = one-order a b h.in_order k.in_order (h.senders ∙ sym k.senders) (h.switch ∙ sym k.switch)
