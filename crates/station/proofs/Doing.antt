-- Each call does its events.
use Rattle.std.proofs.Common.{◌≡◌, ℕ, zero, suc, ◌≤◌, Bool, true, false, not, ◌&&◌, ◌||◌, T, eqb, ltb, List, [], ◌∷◌, ◌++◌, length, take, Some, sym, refl, ap, ◌∙◌, subst, le_of_suc-le-suc, not-suc-le-zero, arith}
use Rattle.messages.specs.Values.{entry_of, ids_of}
use Rattle.messages.specs.declared.values.Word.{Word}
use Rattle.model.specs.Box.{Box, Stands}
use Rattle.model.specs.Words.{Ev, newer}
use Rattle.model.proofs.Tests.{of_cond}
use Rattle.linkmodel.specs.Calls.{Does, Joined, abouts, all_under, expired, saying}
use Rattle.linkmodel.specs.Links.{passes, relinks}
use Rattle.linkmodel.specs.Station.{Bundle, Item, Station, heard_words, news_for, takings, teller, ticks}
use Rattle.linkmodel.proofs.Joins.{ticks_so_lem}
use Rattle.linkmodel.proofs.Sendings.{answers_so_lem, tells_so_lem}
use Rattle.linkmodel.proofs.Takings.{words_so_lem}
use Rattle.station.specs.Events.{AnswersDid, Did, TellsDid, TickDid, WordsDid}
use Rattle.station.specs.Packets.{any_in, first_in, is_out}
use Rattle.station.specs.Ticking.{words_in}
use Rattle.station.proofs.Admitted.{teller_is, teller_open}

-- by what the model says of the state that the call leaves
pub did_as : (s q r : Station) (fs : List Ev) → Joined s → r ≡ q → ((es : List Ev) → Does s es fs q) → Did s fs r
did_as s q r fs j e h es st = subst (λ (u : Station). Stands u.box (fs ++ es)) (sym e) (h es j st).1

pub tick_did_lem : (t : ℕ) (s r : Station) → Joined s → r ≡ ticks t s → TickDid t s r
tick_did_lem t s r j e es new st = subst (λ (u : Station). Stands u.box ((saying t (expired s) ++ relinks s.links (passes s.links) s.box.n) ++ es)) (sym e) (ticks_so_lem s es t new j st).1

pub tells_did_lem : (r : Station) → Joined r → TellsDid r
tells_did_lem r j es st = let p = tells_so_lem r es in ((p.0 j st).1, p.1 st)

-- as many tags as words
take_length : (n : ℕ) (ts : List ℕ) → n ≤ length ts → length (take n ts) ≡ n
take_length zero ts l = refl
take_length (suc n) [] l = absurd (not-suc-le-zero l)
take_length (suc n) (t ∷ ts) l = ap suc (take_length n ts (le_of_suc-le-suc l))

words_length : (n : ℕ) (xs : List Word) → n ≤ length xs → length (words_in n xs) ≡ n
unfolding first_in
words_length zero xs l = refl
words_length (suc n) [] l = absurd (not-suc-le-zero l)
words_length (suc n) (x ∷ xs) l = ap suc (words_length n xs (le_of_suc-le-suc l))

pub words_did_lem : (w n d : ℕ) (xs : List Word) (ts : List ℕ) (s r : Station) → Joined s → n ≤ 4 → length xs ≡ 4 → length ts ≡ 4 →
    ((e : ℕ) → teller w s.links ≡ Some e → r ≡ heard_words e (record { drawn = d; items = words_in n xs }) (take n ts) s) → WordsDid w (record { drawn = d; items = words_in n xs }) (take n ts) s r
words_did_lem w n d xs ts s r j few l m h es ks e q sent new free st =
    let p : Bundle = record { drawn = d; items = words_in n xs } in
    subst (λ (u : Station). Stands u.box (takings ks (take n ts) ++ es)) (sym (h e q))
    (words_so_lem s es e p ks (take n ts) (teller_open w s.links e q) sent (take_length n ts (omega arith) ∙ sym (words_length n xs (omega arith))) new free j st).1

-- what is answered is about boxes that there are
under : (b : Box) (n k : ℕ) (xs : List Word) → any_in (is_out n) k (ids_of xs) ≡ false → T (all_under n (abouts (news_for (words_in k xs) b)))
unfolding first_in any_in news_for abouts all_under
under b n zero xs h = tt
under b n (suc k) [] h = tt
under b n (suc k) (x ∷ xs) h =
    of_cond (λ (ys : List Item). T (all_under n (abouts ys))) (newer (b.word x.id.about) (entry_of x))
    (record { about = x.id.about; entry = b.word x.id.about } ∷ news_for (words_in k xs) b) (news_for (words_in k xs) b)
    (λ _. both (ltb x.id.about n) (eqb x.id.count 0) (any_in (is_out n) k (ids_of xs)) h (under b n k xs (rest (is_out n x.id) (any_in (is_out n) k (ids_of xs)) h)))
    (λ _. under b n k xs (rest (is_out n x.id) (any_in (is_out n) k (ids_of xs)) h))
  where
    rest : (p q : Bool) → (p || q) ≡ false → q ≡ false
    rest true true e = e
    rest true false e = refl
    rest false q e = e

    both : (a z q : Bool) → ((not a || z) || q) ≡ false → T (all_under n (abouts (news_for (words_in k xs) b))) → T (a && all_under n (abouts (news_for (words_in k xs) b)))
    both true z q e t = t
    both false z q e t = let y : ◌≡◌ {A = ℕ} 0 1 = cc in absurd (omega arith)

pub answers_did_lem : (w n d : ℕ) (xs : List Word) (r : Station) → Joined r → any_in (is_out r.box.n) n (ids_of xs) ≡ false → AnswersDid w (record { drawn = d; items = words_in n xs }) r
answers_did_lem w n d xs r j good es e q st =
    let p = answers_so_lem r es e (news_for (words_in n xs) r.box) (teller_is w r e j q).0 (teller_open w r.links e q) (under r.box r.box.n n xs good) in
    ((p.0 j st).1, p.1 j st)
