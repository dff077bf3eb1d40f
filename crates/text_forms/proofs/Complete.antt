-- What is spelled is read, where the next token does not go on with it.
use Rattle.std.proofs.Common.{◌≡◌, ◌≤◌, true, false, not, ◌&&◌, ◌||◌, List, ◌++◌, length, length-append, arith}
use Rattle.std.proofs.lemmas.Bool.{and_parts}
use Rattle.text_forms.specs.declared.TokenKind.TheVariants.{Equal}
use Rattle.text_forms.specs.Form.{has_kind, Form, exactly, one, one_such, ahead, enclosed, up_to, pair, either, mapped, made, optional, many, by_word, Spells}
use Rattle.text_forms.specs.Reading.{nullable, first, after, read, decides, all_apart}
use Rattle.text_forms.proofs.Nests.{enclosed_complete, up_to_complete}
use Rattle.text_forms.proofs.Begins.{begins, split_next}
use Rattle.text_forms.proofs.Ends as ends
use Rattle.text_forms.proofs.Ends.{is_not, not_parts}

pub complete : {A : Type 0} (f : Form A) → decides f ≡ true → ends.Complete (Spells f) (read f) (after f)
complete (exactly k s) d = ends.exactly_complete k s
complete (one k) d = ends.one_complete k
complete (enclosed o c) d = λ a used rest s stop. enclosed_complete o c d a used rest s
complete (up_to st) d =
    λ a used rest s stop. let p = and_parts (not (has_kind st.kinds Equal)) (not (has_kind st.before_equal Equal)) d in up_to_complete st (is_not _ p.0) (is_not _ p.1) a used rest s stop
complete (one_such k p) d = ends.one_such_complete k p
complete (ahead k f) d = ends.ahead_complete k (Spells f) (read f) (after f) (complete f d)
complete (pair f g) d =
    let p = and_parts (decides f) (decides g && all_apart (after f) (first g)) d in
    let q = and_parts (decides g) (all_apart (after f) (first g)) p.1 in
    ends.pair_complete (Spells f) (Spells g) (read f) (read g) (after f) (after g) (first g) (nullable g) q.1 (begins g) (complete f p.0) (complete g q.0)
complete (either f g) d =
    let p = and_parts (decides f) (decides g && (not (nullable f || nullable g) && all_apart (first f) (first g))) d in
    let q = and_parts (decides g) (not (nullable f || nullable g) && all_apart (first f) (first g)) p.1 in
    let o = and_parts (not (nullable f || nullable g)) (all_apart (first f) (first g)) q.1 in
    let n = not_parts (nullable f) (nullable g) o.0 in
    ends.either_complete (Spells f) (Spells g) (read f) (read g) (after f) (after g) (first f) (first g) (nullable f) (nullable g) o.1 n.0 n.1 (begins f) (begins g) (complete f p.0) (complete g q.0)
complete (mapped h f) d = ends.mapped_complete (Spells f) h (read f) (after f) (complete f d)
complete (made h f) d = ends.made_complete (Spells f) h (read f) (after f) (complete f d)
complete (by_word table f) d = ends.by_word_complete table (λ k. Spells (f k)) (λ k ts. read (f k) ts) (λ k. after (f k)) (λ k. decides (f k)) d (λ k e. complete (f k) e)
complete (optional f) d =
    let p = and_parts (decides f) (not (nullable f)) d in
    ends.optional_complete (Spells f) (read f) (after f) (first f) (nullable f) (is_not _ p.1) (begins f) (complete f p.0)
complete (many f) d =
    let p = and_parts (decides f) (not (nullable f) && all_apart (after f) (first f)) d in
    let q = and_parts (not (nullable f)) (all_apart (after f) (first f)) p.1 in
    let n : nullable f ≡ false = is_not _ q.0 in
    λ a used rest s stop.
    let i = split_next (first f) (after f) rest stop in
    let le : length used ≤ length (used ++ rest) = omega (arith, length-append used rest) in
    ends.each_complete (Spells f) (read f) (after f) (first f) (nullable f) q.1 n (begins f) (complete f p.0) a (length (used ++ rest)) used rest le s i.0 i.1
