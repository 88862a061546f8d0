-- What a word `K=PLACE` says, of which the parts are known.
use Rattle.std.proofs.Common.{◌≡◌, ◌≢◌, ◌<◌, ◌≤◌, ◌++◌, ℕ, List, [], ◌∷◌, refl, sym, ap, arith, ◌∙◌}
use Rattle.std.proofs.Common.{Option, Some, None, subst, true, false, ◌^◌}
use Rattle.std.specs.Option.{is_none}
use Rattle.std.specs.Str.{bytes_eq}
use Rattle.std.proofs.lemmas.List.{append-nil}
use Rattle.afdx_frame.specs.declared.link.Side.{Side}
use Rattle.afdx_frame.specs.declared.link.Side.TheVariants.{A, B}
use Rattle.afdx_input_sources.specs.Places.{most_interfaces}
use Rattle.afdx_command_words.specs.PlaceSaid.{Reads, IsWritten, IsPort, IsName, letter, IsNamePart, IsPortPart, Spot}
use Rattle.afdx_command_words.specs.PlaceSaid.{IsSite, IsSpot, IsPlace, IsWord}
use Rattle.afdx_command_words.proofs.CutLemmas.{Lacks, lacks-none, lacks-more, lacks-cut, lacks-digits, lacks-alphanumeric, cut-once, apart}

none-some : {X : Type 0} {x : X} → None ≡ Some x → ⊥
none-some {X} e = let wrong : true ≡ false = ap (λ (o : Option X). is_none o) e in cc

abbrev pair : {X Y : Type 0} → X → Y → X × Y
pair a x = (a, x)

pair-is : {X Y : Type 0} (a b : X) (x y : Y) → a ≡ b → x ≡ y → pair a x ≡ pair b y
pair-is {X} {Y} a b x y e f = ap (λ (m : X). pair m x) e ∙ ap (λ (m : Y). pair b m) f

-- ---- readings

module _ {X : Type 0} {Means : X → Type 0} where
  pub reads-none : ((x : X) → Means x → ⊥) → Reads Means None
  reads-none never = record {
    given = λ x e. let wrong : None ≡ Some x = e in absurd (none-some wrong);
    every = λ x m. absurd (never x m);
  }

  pub reads-some : (x : X) → Means x → ((y : X) → Means y → y ≡ x) → Reads Means (Some x)
  reads-some x m only = record {
    given = λ y e. let same : x ≡ y = cc e in subst Means same m;
    every = λ y n. ap Some (sym (only y n));
  }

  pub reads-no : Reads Means None → (x : X) → Means x → ⊥
  reads-no r x m = none-some (r.every x m)

  pub reads-is : (x : X) → Reads Means (Some x) → Means x
  reads-is x r = r.given x refl

  pub reads-only : (x : X) → Reads Means (Some x) → (y : X) → Means y → y ≡ x
  reads-only x r y m = let same : Some x ≡ Some y = r.every y m in cc

-- ---- a side and the name of a switch

pub lacks-letter : (c : ℕ) (side : Side) → 65 ≢ c → 66 ≢ c → Lacks c (letter side)
lacks-letter c A a b = lacks-more c 65 [] a (lacks-none c)
lacks-letter c B a b = lacks-more c 66 [] b (lacks-none c)

pub site-named : (text front name : List ℕ) (side : Side) → text ≡ front ++ 32 ∷ name → front ≡ letter side
    → IsName name → IsSite text side (Some name)
site-named text front name side e f is =
    record { name_part = 32 ∷ name; written = e ∙ ap (λ (xs : List ℕ). xs ++ 32 ∷ name) f; named = (refl, is) }

pub site-whole : (text : List ℕ) → Lacks 32 text → (side : Side) (switch : Option (List ℕ)) → IsSite text side switch
    → (switch ≡ None) × (text ≡ letter side)
site-whole text h side None is =
    (refl, is.written ∙ ap (λ (xs : List ℕ). letter side ++ xs) is.named ∙ append-nil (letter side))
site-whole text h side (Some name) is =
    let whole : text ≡ letter side ++ 32 ∷ name =
    is.written ∙ ap (λ (xs : List ℕ). letter side ++ xs) is.named.0 in
    lacks-cut 32 (letter side) name (subst (Lacks 32) whole h)

pub site-parts : (text front back : List ℕ) → text ≡ front ++ 32 ∷ back → Lacks 32 front → (side : Side)
    (switch : Option (List ℕ)) → IsSite text side switch → (switch ≡ Some back) × (front ≡ letter side) × IsName back
site-parts text front back e h side None is =
    let whole : front ++ 32 ∷ back ≡ letter side =
    sym e ∙ is.written ∙ ap (λ (xs : List ℕ). letter side ++ xs) is.named ∙ append-nil (letter side) in
    lacks-cut 32 front back (subst (Lacks 32) (sym whole) (lacks-letter 32 side (omega arith) (omega arith)))
site-parts text front back e h side (Some name) is =
    let whole : front ++ 32 ∷ back ≡ letter side ++ 32 ∷ name =
    sym e ∙ is.written ∙ ap (λ (xs : List ℕ). letter side ++ xs) is.named.0 in
    let parts = cut-once 32 front back (letter side) name h (lacks-letter 32 side (omega arith) (omega arith)) whole in
    (ap Some (sym parts.1), parts.0, subst IsName (sym parts.1) is.named.1)

pub lacks-site : (text : List ℕ) (side : Side) (switch : Option (List ℕ)) → IsSite text side switch → Lacks 58 text
lacks-site text side switch is = subst (Lacks 58) (sym is.written) (by side switch is.name_part is.named)
  where
    part : (switch : Option (List ℕ)) (name_part : List ℕ) → IsNamePart name_part switch → Lacks 58 name_part
    part None name_part e = subst (Lacks 58) (sym e) (lacks-none 58)
    part (Some name) name_part e =
        subst (Lacks 58) (sym e.0) (lacks-more 58 32 name (omega arith) (lacks-alphanumeric 58 name e.1.letters refl))

    by : (side : Side) (switch : Option (List ℕ)) (name_part : List ℕ) → IsNamePart name_part switch
        → Lacks 58 (letter side ++ name_part)
    by A switch name_part e = lacks-more 58 65 name_part (omega arith) (part switch name_part e)
    by B switch name_part e = lacks-more 58 66 name_part (omega arith) (part switch name_part e)

-- ---- a place

-- what is left out is said by no letter
pub spot-begins : (text : List ℕ) (spot : Spot) → IsSpot text spot → text ≢ 45 ∷ []
spot-begins text spot is = by spot.side is.at_site
  where
    by : (side : Side) → IsSite is.site side spot.switch → text ≢ 45 ∷ []
    by A site e = apart 45 65 [] (site.name_part ++ is.port_part) (omega arith)
        (sym e ∙ is.written ∙ ap (λ (xs : List ℕ). xs ++ is.port_part) site.written)
    by B site e = apart 45 66 [] (site.name_part ++ is.port_part) (omega arith)
        (sym e ∙ is.written ∙ ap (λ (xs : List ℕ). xs ++ is.port_part) site.written)

abbrev spot-with : Side → Option (List ℕ) → Option ℕ → Spot
spot-with side switch port = record { side = side; switch = switch; port = port }

pub spot-made : (spot : Spot) (side : Side) (switch : Option (List ℕ)) (port : Option ℕ) → spot.side ≡ side
    → spot.switch ≡ switch → spot.port ≡ port → spot ≡ record { side = side; switch = switch; port = port }
spot-made spot side switch port a b c =
    subst (λ (s : Side). spot ≡ spot-with s switch port) a
    (subst (λ (n : Option (List ℕ)). spot ≡ spot-with spot.side n port) b
    (subst (λ (p : Option ℕ). spot ≡ spot-with spot.side spot.switch p) c refl))

pub spot-alone : (text : List ℕ) (side : Side) (switch : Option (List ℕ)) → IsSite text side switch
    → IsSpot text (record { side = side; switch = switch; port = None })
spot-alone text side switch is = record {
  site = text;
  port_part = [];
  written = sym (append-nil text);
  at_site = is;
  at_port = refl;
}

pub spot-ported : (text front digits : List ℕ) (side : Side) (switch : Option (List ℕ)) (port : ℕ)
    → text ≡ front ++ 58 ∷ digits → IsSite front side switch → IsPort digits port
    → IsSpot text (record { side = side; switch = switch; port = Some port })
spot-ported text front digits side switch port e is p = record {
  site = front;
  port_part = 58 ∷ digits;
  written = e;
  at_site = is;
  at_port = (digits, refl, p);
}

pub spot-whole : (text : List ℕ) → Lacks 58 text → (spot : Spot) → IsSpot text spot
    → (spot.port ≡ None) × IsSite text spot.side spot.switch
spot-whole text h spot is = by spot.port is.at_port
  where
    by : (port : Option ℕ) → IsPortPart is.port_part port → (port ≡ None) × IsSite text spot.side spot.switch
    by None e =
        let whole : text ≡ is.site =
        is.written ∙ ap (λ (xs : List ℕ). is.site ++ xs) e ∙ append-nil is.site in
        (refl, subst (λ (t : List ℕ). IsSite t spot.side spot.switch) (sym whole) is.at_site)
    by (Some port) e =
        let whole : text ≡ is.site ++ 58 ∷ e.0 = is.written ∙ ap (λ (xs : List ℕ). is.site ++ xs) e.1 in
        lacks-cut 58 is.site e.0 (subst (Lacks 58) whole h)

-- the port that a spot says, of a text with a colon
pub record HasPort (front back : List ℕ) (spot : Spot) : Type 0 where
  pub port : ℕ
  pub is : spot.port ≡ Some port
  pub digits : IsPort back port
  pub site : IsSite front spot.side spot.switch

pub spot-parts : (text front back : List ℕ) → text ≡ front ++ 58 ∷ back → Lacks 58 front → (spot : Spot)
    → IsSpot text spot → HasPort front back spot
spot-parts text front back e h spot is = by spot.port refl is.at_port
  where
    low : Lacks 58 is.site
    low = lacks-site is.site spot.side spot.switch is.at_site

    by : (port : Option ℕ) → spot.port ≡ port → IsPortPart is.port_part port → HasPort front back spot
    by None k p =
        let whole : front ++ 58 ∷ back ≡ is.site =
        sym e ∙ is.written ∙ ap (λ (xs : List ℕ). is.site ++ xs) p ∙ append-nil is.site in
        lacks-cut 58 front back (subst (Lacks 58) (sym whole) low)
    by (Some port) k p =
        let whole : front ++ 58 ∷ back ≡ is.site ++ 58 ∷ p.0 =
        sym e ∙ is.written ∙ ap (λ (xs : List ℕ). is.site ++ xs) p.1 in
        let parts = cut-once 58 front back is.site p.0 h low whole in
        record {
          port = port;
          is = k;
          digits = subst (λ (t : List ℕ). IsPort t port) (sym parts.1) p.2;
          site = subst (λ (t : List ℕ). IsSite t spot.side spot.switch) (sym parts.0) is.at_site;
        }

-- ---- a word

-- what a word says, of which the parts around `=` are known
pub record HasPlace (front back : List ℕ) (interface : ℕ) (spot : Option Spot) : Type 0 where
  pub number : IsWritten 4 front interface
  pub range : interface < most_interfaces
  pub place : IsPlace back spot

pub word-whole : {Y : Type 0} (word : List ℕ) → Lacks 61 word → (interface : ℕ) (spot : Option Spot)
    → IsWord word interface spot → Y
word-whole word h interface spot is = lacks-cut 61 is.digits is.place (subst (Lacks 61) is.written h)

pub word-parts : (word front back : List ℕ) → word ≡ front ++ 61 ∷ back → Lacks 61 front → (interface : ℕ)
    (spot : Option Spot) → IsWord word interface spot → HasPlace front back interface spot
word-parts word front back e h interface spot is =
    let whole : front ++ 61 ∷ back ≡ is.digits ++ 61 ∷ is.place = sym e ∙ is.written in
    let low : Lacks 61 is.digits = lacks-digits 61 is.digits is.number.numeral.1 (omega arith) in
    let parts = cut-once 61 front back is.digits is.place h low whole in
    record {
      number = subst (λ (t : List ℕ). IsWritten 4 t interface) (sym parts.0) is.number;
      range = is.range;
      place = subst (λ (t : List ℕ). IsPlace t spot) (sym parts.1) is.is;
    }

pub word-made : (word front back : List ℕ) (interface : ℕ) (spot : Option Spot) → word ≡ front ++ 61 ∷ back
    → HasPlace front back interface spot → IsWord word interface spot
word-made word front back interface spot e has = record {
  digits = front;
  place = back;
  written = e;
  number = has.number;
  range = has.range;
  is = has.place;
}

-- ---- what is read

-- `-` has no colon
dash-whole : (text : List ℕ) → text ≡ 45 ∷ [] → Lacks 58 text
dash-whole text e = subst (Lacks 58) (sym e) (lacks-more 58 45 [] (omega arith) (lacks-none 58))

pub not-dash : (text : List ℕ) → bytes_eq text (45 ∷ []) ≡ false → text ≢ 45 ∷ []
not-dash text h e = let wrong : true ≡ false = subst (λ (t : List ℕ). bytes_eq t (45 ∷ []) ≡ false) e h in cc

pub site-read : (text front back : List ℕ) → text ≡ front ++ 32 ∷ back → Lacks 32 front → (side : Side)
    → Reads (λ s. front ≡ letter s) (Some side) → IsName back
    → Reads {X = Side × Option (List ℕ)} (λ at. IsSite text at.0 at.1) (Some (side, Some back))
site-read text front back e h side r named =
    reads-some (side, Some back) (site-named text front back side e (reads-is side r) named) only
  where
    only : (at : Side × Option (List ℕ)) → IsSite text at.0 at.1 → at ≡ (side, Some back)
    only (other, switch) is =
        let parts = site-parts text front back e h other switch is in
        pair-is other side switch (Some back) (reads-only side r other parts.1) parts.0

-- the text of a place, cut at a colon, if it has one
pub record IsCut (text site : List ℕ) (port : Option ℕ) : Type 0 where
  pub parts : (spot : Spot) → IsSpot text spot → (spot.port ≡ port) × IsSite site spot.side spot.switch
  pub made : (side : Side) (switch : Option (List ℕ)) → IsSite site side switch
      → IsSpot text (record { side = side; switch = switch; port = port })
  pub dash : text ≢ 45 ∷ []

pub no-port-read : (text front back : List ℕ) → text ≡ front ++ 58 ∷ back → Lacks 58 front
    → Reads (IsPort back) None → Reads {X = Option Spot} (IsPlace text) None
no-port-read text front back e h r = reads-none never
  where
    never : (spot : Option Spot) → IsPlace text spot → ⊥
    never None is = lacks-cut 58 front back (subst (Lacks 58) e (dash-whole text is))
    never (Some spot) is =
        let has = spot-parts text front back e h spot is in reads-no r has.port has.digits

pub cut-ported : (text front back site : List ℕ) (port : Option ℕ) (p : ℕ) → text ≡ front ++ 58 ∷ back
    → Lacks 58 front → site ≡ front → port ≡ Some p → Reads (IsPort back) (Some p) → IsCut text site port
cut-ported text front back site port p e h s q r =
    subst (λ (t : List ℕ). IsCut text t port) (sym s) (subst (IsCut text front) (sym q) here)
  where
    here : IsCut text front (Some p)
    here = record {
      parts = λ spot is.
          let has = spot-parts text front back e h spot is in
          let same : has.port ≡ p = reads-only p r has.port has.digits in
          (has.is ∙ ap Some same, has.site);
      made = λ side switch is. spot-ported text front back side switch p e is (reads-is p r);
      dash = λ d. lacks-cut 58 front back (subst (Lacks 58) e (dash-whole text d));
    }

pub cut-whole : (text site : List ℕ) (port : Option ℕ) → Lacks 58 text → text ≢ 45 ∷ [] → site ≡ text
    → port ≡ None → IsCut text site port
cut-whole text site port h d s q =
    subst (λ (t : List ℕ). IsCut text t port) (sym s) (subst (IsCut text text) (sym q) here)
  where
    here : IsCut text text None
    here = record {
      parts = spot-whole text h;
      made = λ side switch is. spot-alone text side switch is;
      dash = d;
    }

pub no-site-read : (text site : List ℕ) (port : Option ℕ) → IsCut text site port
    → Reads {X = Side × Option (List ℕ)} (λ at. IsSite site at.0 at.1) None
    → Reads {X = Option Spot} (IsPlace text) None
no-site-read text site port cut r = reads-none never
  where
    never : (spot : Option Spot) → IsPlace text spot → ⊥
    never None is = cut.dash is
    never (Some spot) is = reads-no r (spot.side, spot.switch) (cut.parts spot is).1

pub spot-read : (text site : List ℕ) (port : Option ℕ) → IsCut text site port
    → (side : Side) (switch : Option (List ℕ))
    → Reads {X = Side × Option (List ℕ)} (λ at. IsSite site at.0 at.1) (Some (side, switch))
    → Reads {X = Option Spot} (IsPlace text) (Some (Some (record { side = side; switch = switch; port = port })))
spot-read text site port cut side switch r =
    reads-some (Some here) (cut.made side switch (reads-is (side, switch) r)) only
  where
    here : Spot
    here = record { side = side; switch = switch; port = port }

    only : (spot : Option Spot) → IsPlace text spot → spot ≡ Some here
    only None is = absurd (cut.dash is)
    only (Some spot) is =
        let parts = cut.parts spot is in
        let same : pair spot.side spot.switch ≡ pair side switch =
        reads-only (side, switch) r (spot.side, spot.switch) parts.1 in
        let sides : spot.side ≡ side = ap (λ (at : Side × Option (List ℕ)). at.0) same in
        let switches : spot.switch ≡ switch = ap (λ (at : Side × Option (List ℕ)). at.1) same in
        ap Some (spot-made spot side switch port sides switches parts.0)

-- what a word is read as
abbrev pub ReadsWord : List ℕ → Option (ℕ × Option Spot) → Type 0
ReadsWord word answer = Reads {X = ℕ × Option Spot} (λ at. IsWord word at.0 at.1) answer

pub uncut-read : (word : List ℕ) → Lacks 61 word → ReadsWord word None
uncut-read word h = reads-none (λ at is. word-whole word h at.0 at.1 is)

module _ (word front back : List ℕ) (e : word ≡ front ++ 61 ∷ back) (h : Lacks 61 front) where
  pub no-number-read : Reads (λ n. IsWritten 4 front n × (n < 2 ^ 16)) None → ReadsWord word None
  no-number-read r = reads-none (λ at is.
      let has = word-parts word front back e h at.0 at.1 is in
      let small : at.0 < 2 ^ 16 = omega (arith, has.range) in
      reads-no r at.0 (has.number, small))

  module _ (n : ℕ) (r : Reads (λ n. IsWritten 4 front n × (n < 2 ^ 16)) (Some n)) where
    number-read : (k : ℕ) (spot : Option Spot) → IsWord word k spot
        → (k ≡ n) × (k < most_interfaces) × IsPlace back spot
    number-read k spot is =
        let has = word-parts word front back e h k spot is in
        let small : k < 2 ^ 16 = omega (arith, has.range) in
        (reads-only n r k (has.number, small), has.range, has.place)

    pub high-number-read : 4095 < n → ReadsWord word None
    high-number-read high = reads-none (λ at is.
        let has = number-read at.0 at.1 is in
        let same : at.0 ≡ n = has.0 in
        let low : at.0 < 4096 = has.1 in
        omega (arith, same, low, high))

    pub no-place-read : Reads {X = Option Spot} (IsPlace back) None → ReadsWord word None
    no-place-read p = reads-none (λ at is. reads-no p at.1 (number-read at.0 at.1 is).2)

    pub word-read : n ≤ 4095 → (spot : Option Spot) → Reads {X = Option Spot} (IsPlace back) (Some spot)
        → ReadsWord word (Some (n, spot))
    word-read low spot p = reads-some (n, spot) made only
      where
        made : IsWord word n spot
        made = word-made word front back n spot e
            (record { number = (reads-is n r).0; range = omega (arith, low); place = reads-is spot p })

        only : (at : ℕ × Option Spot) → IsWord word at.0 at.1 → at ≡ (n, spot)
        only (k, other) is =
            let has = number-read k other is in
            pair-is k n other spot has.0 (reads-only spot p other has.2)
