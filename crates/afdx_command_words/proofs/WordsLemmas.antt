-- The words of an option, in their order.
use Rattle.std.proofs.Common.{◌≡◌, ◌++◌, ℕ, List, [], ◌∷◌, map, refl, Option, Some, None, option_map, Bor}
use Rattle.std.specs.Option.{option_map_or, unwrap_or}
use Rattle.std.proofs.Common.{◌<◌, ◌+◌, length, take, get_or}
use Rattle.std.proofs.lemmas.List.{map_more}
use Rattle.std.proofs.Common.{Bool, true, false, not, ap, ◌||◌}
use Rattle.std.specs.List.{AllZip, list_any}
use Rattle.std.specs.Str.{bytes_eq}
use Rattle.afdx_frame.specs.declared.link.VlId.{VlId}
use Rattle.afdx_command_words.specs.AskedSaid.{is_among}
use Rattle.afdx_command_words.specs.ConformSaid.{NamesLink}
use Rattle.clap.specs.Words.{raw_values}
use Rattle.clap.specs.declared.parser.matches.MatchedArg.{MatchedArg}

-- one place more in two lists
pub zip-push : {X Y : Type 0} (R : X → Y → Type 0) (xs : List X) (ys : List Y) (x : X) (y : Y) → AllZip R xs ys
    → R x y → AllZip R (xs ++ x ∷ []) (ys ++ y ∷ [])
zip-push R [] [] x y all one = (one, tt)
zip-push R [] (b ∷ ys) x y all one = absurd all
zip-push R (a ∷ xs) [] x y all one = absurd all
zip-push R (a ∷ xs) (b ∷ ys) x y all one = (all.0, zip-push R xs ys x y all.1 one)

-- what is given of them, or none
pub words-found : (given : Option (Bor (List (Bor (List ℕ))))) (none words : Bor (List (Bor (List ℕ))))
    (found : Option MatchedArg) → option_map (λ s. map (λ v. v.now) s.now) given ≡ option_map raw_values found
    → words ≡ unwrap_or given none → none.now ≡ []
    → map (λ word. word.now) words.now ≡ option_map_or raw_values found []
words-found None none words None e w n = rw (w, n) refl
words-found None none words (Some m) e w n = absurd (cc e)
words-found (Some s) none words None e w n = absurd (cc e)
words-found (Some s) none words (Some m) e w n =
    let same : map (λ v. v.now) s.now ≡ raw_values m = cc e in rw w same

-- one word more, and its link
pub links-more : (words : List (Bor (List ℕ))) (i : ℕ) (d : Bor (List ℕ)) (old new : List (Option VlId))
    (link : Option VlId) → i < length words → AllZip NamesLink (map (λ word. word.now) (take i words)) old
    → NamesLink (get_or words i d).now link → new ≡ old ++ link ∷ []
    → AllZip NamesLink (map (λ word. word.now) (take (i + 1) words)) new
links-more words i d old new link lt all one e =
    let more : map (λ (word : Bor (List ℕ)). word.now) (take (i + 1) words)
    ≡ map (λ (word : Bor (List ℕ)). word.now) (take i words) ++ (get_or words i d).now ∷ [] =
    map_more (λ (word : Bor (List ℕ)). word.now) words i d lt in
    rw (more, e) (zip-push NamesLink (map (λ (word : Bor (List ℕ)). word.now) (take i words)) old
    (get_or words i d).now link all one)

-- whether a word is among them
pub among-texts : (word : List ℕ) (words : List (Bor (List ℕ))) → list_any (λ said. bytes_eq said.now word) words
    ≡ is_among word (map (λ said. said.now) words)
among-texts word [] = refl
among-texts word (said ∷ words) = ap (λ (other : Bool). bytes_eq said.now word || other) (among-texts word words)

-- what isn't denied
pub not-not : (b : Bool) → b ≡ not (not b)
not-not true = refl
not-not false = refl
