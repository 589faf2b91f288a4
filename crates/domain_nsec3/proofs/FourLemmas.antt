-- The hashes of four names at once.
use Rattle.std.proofs.{Common.{◌≡◌, ◌<◌, ℕ, zero, suc, get_or, List, [], ◌∷◌, length, map, refl, sym, ap, ◌∙◌, arith}, lemmas.Grind.common_steps}
use Rattle.std.specs.Prelude.{Ok, Err, Result}
use Rattle.domain_octets.specs.Octets.{Octets}
use Rattle.domain_hasher.specs.Hashes.{all_hashes, put_first}

put_ok : (hash : Octets) (answers : List (Result Octets ℕ)) (rest : Result (List Octets) ℕ) (hashes : List Octets)
    → ((others : List Octets) → rest ≡ Ok others → answers ≡ map Ok others)
    → put_first hash rest ≡ Ok hashes → Ok hash ∷ answers ≡ map Ok hashes
put_ok hash answers (Ok others) hashes are put =
    let here = are others refl in
    grind (arith, common_steps)
put_ok hash answers (Err n) hashes are put = absurd (grind (arith, common_steps))

-- where all names have a hash, each answer is that of its name
pub each_answered : (answers : List (Result Octets ℕ)) (hashes : List Octets) → all_hashes answers ≡ Ok hashes → answers ≡ map Ok hashes
each_answered [] hashes all = grind (arith, common_steps)
each_answered (Ok hash ∷ answers) hashes all = put_ok hash answers (all_hashes answers) hashes (each_answered answers) all
each_answered (Err n ∷ answers) hashes all = absurd (grind (arith, common_steps))

-- a list of four elements
pub four_of : {X : Type 0} (xs : List X) (a b c d : X) → length xs ≡ 4 → a ≡ get_or xs 0 a → b ≡ get_or xs 1 b → c ≡ get_or xs 2 c → d ≡ get_or xs 3 d
    → xs ≡ a ∷ b ∷ c ∷ d ∷ []
four_of [] a b c d four first second third fourth = absurd (omega arith)
four_of (x ∷ []) a b c d four first second third fourth = absurd (omega arith)
four_of (x ∷ y ∷ []) a b c d four first second third fourth = absurd (omega arith)
four_of (x ∷ y ∷ z ∷ []) a b c d four first second third fourth = absurd (omega arith)
four_of (x ∷ y ∷ z ∷ w ∷ []) a b c d four first second third fourth = grind (arith, common_steps)
four_of (x ∷ y ∷ z ∷ w ∷ v ∷ xs) a b c d four first second third fourth = absurd (omega arith)

-- the hashes of a list, as a hasher answers for each
ok_items : {V : Type 0} (items : V → Octets) (hashes : List V) (answers : List (Result Octets ℕ)) → answers ≡ map Ok (map items hashes)
    → map (λ v. Ok (items v)) hashes ≡ answers
ok_items items [] [] are = refl
ok_items items [] (answer ∷ answers) are = absurd (grind (arith, common_steps))
ok_items items (hash ∷ hashes) [] are = absurd (grind (arith, common_steps))
ok_items items (hash ∷ hashes) (answer ∷ answers) are =
    let rest = ok_items items hashes answers (grind (arith, common_steps)) in
    grind (arith, common_steps)

-- of four wire forms that a hasher has hashed, each hash is that of its name
pub four_answered : {V W N : Type 0} (items : V → Octets) (answer : W → Result Octets ℕ) (hash : N → Result Octets ℕ) (hashes : List V) (names : List N)
    (w x y z : W) (k l m n : N) → all_hashes (map answer (w ∷ x ∷ y ∷ z ∷ [])) ≡ Ok (map items hashes) → names ≡ k ∷ l ∷ m ∷ n ∷ []
    → answer w ≡ hash k → answer x ≡ hash l → answer y ≡ hash m → answer z ≡ hash n → map (λ v. Ok (items v)) hashes ≡ map hash names
four_answered items answer hash hashes names w x y z k l m n all are first second third fourth =
    ok_items items hashes (map answer (w ∷ x ∷ y ∷ z ∷ [])) (each_answered (map answer (w ∷ x ∷ y ∷ z ∷ [])) (map items hashes) all)
    ∙ (λ i. first i ∷ second i ∷ third i ∷ fourth i ∷ []) ∙ sym (ap (map hash) are)

-- four hashes, each with its name
pub four_known : {V N : Type 0} (items : V → Octets) (hash : N → Result Octets ℕ) (hashes : List V) (k l m n : N)
    → map (λ v. Ok (items v)) hashes ≡ hash k ∷ hash l ∷ hash m ∷ hash n ∷ [] → (p q r s : V) (e f g h : Octets)
    → e ≡ items (get_or hashes 0 p) → f ≡ items (get_or hashes 1 q) → g ≡ items (get_or hashes 2 r) → h ≡ items (get_or hashes 3 s)
    → (Ok e ≡ hash k) × (Ok f ≡ hash l) × (Ok g ≡ hash m) × (Ok h ≡ hash n)
four_known items hash [] k l m n all p q r s e f g h first second third fourth = absurd (grind (arith, common_steps))
four_known items hash (u ∷ []) k l m n all p q r s e f g h first second third fourth = absurd (grind (arith, common_steps))
four_known items hash (u ∷ v ∷ []) k l m n all p q r s e f g h first second third fourth = absurd (grind (arith, common_steps))
four_known items hash (u ∷ v ∷ w ∷ []) k l m n all p q r s e f g h first second third fourth = absurd (grind (arith, common_steps))
four_known items hash (u ∷ v ∷ w ∷ x ∷ rest) k l m n all p q r s e f g h first second third fourth =
    (grind (arith, common_steps), grind (arith, common_steps), grind (arith, common_steps), grind (arith, common_steps))
