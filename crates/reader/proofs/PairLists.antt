-- Bytes are read as pairs exactly where their records tell them.
use Rattle.std.proofs.Common.{◌≡◌, ℕ, ◌+◌, ◌<◌, ◌≤◌, ltb, MatchResult, List, [], ◌∷◌, ◌++◌, length, Ok, Err, Result, sym, refl, ap, ◌∙◌, arith}
use Rattle.std.proofs.lemmas.List.{append-nil, append_assoc, length_push}
use Rattle.std.proofs.lemmas.Bool.{cond_both, ltb-true, ltb-false}
use Rattle.std.proofs.lemmas.Bool.Decides.{nat_tests}
use Rattle.reader.specs.declared.fault.Fault as faults
use Rattle.reader.specs.declared.evidence.EvidenceFault as evidence
use Rattle.reader.specs.declared.evidence.EvidenceFault.TheVariants.{Record, Pairs, Moves}
use Rattle.reader.specs.declared.listing.Listing.{Listing}
use Rattle.reader.specs.declared.pair.Pair.{Pair}
use Rattle.reader.specs.Fault.{place}
use Rattle.reader.specs.Record.{Records, none, cut, next, records, size_of, followed, sizes}
use Rattle.reader.specs.Pairs.{pair_of, joined, gather, pairs_in, outcome}
use Rattle.reader.specs.Evidence.{Tells, AllTell, PairsLaid, TellsNone, PairsStand, PairsBreak}

-- what a record says that is read as a pair, and one that is not
pair_told : (at kind : ℕ) (body : List ℕ) (p : Pair) → pair_of at kind body ≡ Ok p → Tells kind body p
pair_told at kind body p e = grind (arith, nat_tests)

pair_refused : (at kind : ℕ) (body : List ℕ) (f : faults.Fault) (more : Records) → pair_of at kind body ≡ Err f → (place f ≡ at) × TellsNone f (next kind body more)
pair_refused at kind body f more e = grind (arith, nat_tests)

-- a record that tells a pair is read as it
told_pair : (at kind : ℕ) (body : List ℕ) (p : Pair) → Tells kind body p → pair_of at kind body ≡ Ok p
told_pair at kind body p t = grind (arith, nat_tests)

-- what stands behind n pairs and some further records that tell pairs, from an offset on
abbrev Behind : ℕ → ℕ → evidence.EvidenceFault → List (ℕ × List ℕ) → Records → Type 0
Behind n at Pairs xs rest = (n + length xs ≡ 4096) × (rest ≡ none → ⊥)
Behind n at (Record f) xs rest = (n + length xs < 4096) × (at + sizes xs ≡ place f) × TellsNone f rest
Behind n at (Moves k) xs rest = ⊥

-- what reading the records behind the pairs qs, from an offset on, says of them
abbrev Gathered : List Pair → ℕ → Records → Result (List Pair) evidence.EvidenceFault → Type 0
Gathered qs at rs (Ok ps) = (xs : List (ℕ × List ℕ)) × (more : List Pair) × (rs ≡ followed xs none) × AllTell xs more × (ps ≡ qs ++ more) × (length ps ≤ 4096)
Gathered qs at rs (Err f) = (xs : List (ℕ × List ℕ)) × (more : List Pair) × (rest : Records) × (rs ≡ followed xs rest) × AllTell xs more × Behind (length qs) at f xs rest

behind_more : (n at m : ℕ) (f : evidence.EvidenceFault) (x : ℕ × List ℕ) (xs : List (ℕ × List ℕ)) (rest : Records) → m ≡ n + 1 → Behind m (at + size_of x.1) f xs rest → Behind n at f (x ∷ xs) rest
behind_more n at m f x xs rest e b = grind arith

gathered_more : (qs : List Pair) (at kind : ℕ) (body : List ℕ) (rest : Records) (p : Pair) (o : Result (List Pair) evidence.EvidenceFault) → Tells kind body p → Gathered (qs ++ p ∷ []) (at + size_of body) rest o → Gathered qs at (next kind body rest) o
gathered_more qs at kind body rest p (Ok ps) t (xs, more, e, ts, is, few) = ((kind, body) ∷ xs, p ∷ more, ap (next kind body) e, (t, ts), is ∙ append_assoc qs (p ∷ []) more, few)
gathered_more qs at kind body rest p (Err f) t (xs, more, left, e, ts, b) = ((kind, body) ∷ xs, p ∷ more, left, ap (next kind body) e, (t, ts), behind_more (length qs) at (length (qs ++ p ∷ [])) f (kind, body) xs left (length_push qs p) b)

gathered : (rs : Records) (qs : List Pair) (at : ℕ) → length qs ≤ 4096 → Gathered qs at rs (gather qs at rs)
unfolding gather
gathered none qs at h = ([], [], refl, tt, sym (append-nil qs), h)
gathered cut qs at h =
    cond_both (ltb (length qs) 4096) _ _ (Gathered qs at cut)
    (λ room. let r = ltb-true (length qs) 4096 room in ([], [], cut, refl, tt, (omega arith, omega arith, refl)))
    (λ full. let r = ltb-false (length qs) 4096 full in ([], [], cut, refl, tt, (omega arith, λ e. cc)))
gathered (next kind body rest) qs at h =
    cond_both (ltb (length qs) 4096) _ _ (Gathered qs at (next kind body rest))
    (λ room. go (pair_of at kind body) refl (ltb-true (length qs) 4096 room) (gathered rest))
    (λ full. let r = ltb-false (length qs) 4096 full in ([], [], next kind body rest, refl, tt, (omega arith, λ e. cc)))
  where
    go : (o : Result Pair faults.Fault) → pair_of at kind body ≡ o → length qs < 4096 → ((zs : List Pair) (a : ℕ) → length zs ≤ 4096 → Gathered zs a rest (gather zs a rest))
        → Gathered qs at (next kind body rest) (joined (λ p. gather (qs ++ p ∷ []) (at + size_of body) rest) o)
    go (Ok p) e room further =
        let long = length_push qs p in
        gathered_more qs at kind body rest p (gather (qs ++ p ∷ []) (at + size_of body) rest) (pair_told at kind body p e) (further (qs ++ p ∷ []) (at + size_of body) (omega arith))
    go (Err f) e room further =
        let t = pair_refused at kind body f rest e in
        let at_is = t.0 in
        ([], [], next kind body rest, refl, tt, (omega arith, omega arith, t.1))

told_gather : (xs : List (ℕ × List ℕ)) (more qs : List Pair) (at : ℕ) → AllTell xs more → length qs + length more ≤ 4096 → gather qs at (followed xs none) ≡ Ok (qs ++ more)
unfolding gather
told_gather [] [] qs at ts few = grind (arith, append-nil {A = Pair})
told_gather (x ∷ xs) (p ∷ more) qs at ts few =
    grind (arith, nat_tests, told_pair, told_gather xs more (qs ++ p ∷ []) (at + size_of x.1) ts.1, length_push {X = Pair}, append_assoc {A = Pair})
told_gather xs more qs at ts few = absurd ts

pub pairs_laid : (bytes : List ℕ) (ps : List Pair) → pairs_in bytes ≡ Ok ps → PairsLaid bytes ps
unfolding pairs_in PairsLaid
pairs_laid bytes ps e =
    let (xs, more, is, told, same, few) = rw e at (gathered (records bytes) [] 0 (omega arith)) in
    (xs, is, rw same told, few)

pub laid_pairs : (bytes : List ℕ) (ps : List Pair) → PairsLaid bytes ps → pairs_in bytes ≡ Ok ps
unfolding pairs_in PairsLaid
laid_pairs bytes ps l = let few = l.3 in ap (gather [] 0) l.1 ∙ told_gather l.0 ps [] 0 l.2 (omega arith)

stands_behind : (f : evidence.EvidenceFault) (xs : List (ℕ × List ℕ)) (rest : Records) → Behind 0 0 f xs rest → PairsStand f xs rest
stands_behind f xs rest b = grind arith

pub pairs_break : (bytes : List ℕ) (f : evidence.EvidenceFault) → pairs_in bytes ≡ Err f → PairsBreak bytes f
unfolding pairs_in PairsBreak
pairs_break bytes f e =
    let (xs, ps, rest, is, told, stands) = rw e at (gathered (records bytes) [] 0 (omega arith)) in
    (xs, ps, rest, is, told, stands_behind f xs rest stands)

-- what an answer says of the bytes
pub pairs_told : (bytes : List ℕ) (r : Result (Listing Pair) evidence.EvidenceFault) → outcome r ≡ pairs_in bytes → MatchResult r (λ l. PairsLaid bytes l.items) (λ f. PairsBreak bytes f)
pairs_told bytes (Ok l) e = pairs_laid bytes l.items (sym e)
pairs_told bytes (Err f) e = pairs_break bytes f (sym e)
