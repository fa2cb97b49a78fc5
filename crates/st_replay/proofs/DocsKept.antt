-- The documents that are kept of authors: by session, as they go on, and as the log grows.
use Rattle.std.proofs.Common.{◌≡◌, ℕ, Bool, true, false, cond, IfSome, List, [], ◌++◌, length, take, Option, Some, None, refl, sym, ◌∙◌, subst, arith}
use Rattle.std.specs.BTreeMap.{get}
use Rattle.std.specs.Ordering.{is_eq, nat_cmp}
use Rattle.std.proofs.lemmas.List.{take_all}
use Rattle.std.proofs.lemmas.Map.Lookups.{exact_unsigned}
use Rattle.st_author_docs.specs.Authors.{IsAuthorOf, LeadsTo}
use Rattle.st_author_docs.specs.declared.author_doc.AuthorDoc.{AuthorDoc}
use Rattle.st_author_docs.proofs.Authors.{stays_longer}
use Rattle.st_doc.specs.Doc.{document_of}
use Rattle.st_doc.specs.declared.doc.Doc.{Doc}
use Rattle.st_ids.proofs.Orders.{is_eq_equal}
use Rattle.st_lists.specs.declared.lists.Entry.{Entry}
use Rattle.st_marks.specs.Document.{Document, IsSoundInForm}
use Rattle.st_marks.specs.declared.intents.Intent.{Intent}
use Rattle.st_marks.specs.Run.{Run, done}
use Rattle.st_valid.specs.Author.{author_list}
use Rattle.st_replay.specs.Stands.{AreAuthorsOf}
use Rattle.st_replay.specs.declared.authors.Authors.{Authors}

-- ## At the opening

pub opens : (O : Document) (d : Doc) → document_of d ≡ O → IsSoundInForm O → LeadsTo O [] d
opens O d is sound = record { ran = subst (Run O []) (sym is) done; sound = subst IsSoundInForm (sym is) sound }

-- a copy stands for the same
pub leads_alike : (O : Document) (Ns : List Intent) (d e : Doc) → document_of e ≡ document_of d → LeadsTo O Ns d → LeadsTo O Ns e
leads_alike O Ns d e same h = record { ran = subst (Run O Ns) (sym same) h.ran; sound = subst IsSoundInForm (sym same) h.sound }

-- ## By session

pub one_kept : (O : Document) (log : List Entry) (x : Authors) (s : ℕ) (o : Option AuthorDoc) → o ≡ get nat_cmp x.docs s → AreAuthorsOf O log x → IfSome o (IsAuthorOf O log s)
one_kept O log x s None e h = tt
one_kept O log x s (Some a) e h = h.each s a (sym e)

-- what is kept of a session, or what is begun anew, is its own
pub kept_or_new : (O : Document) (log : List Entry) (x : Authors) (s : ℕ) (o : Option AuthorDoc) (a : AuthorDoc) → o ≡ get nat_cmp x.docs s
    → (IfSome o (IsAuthorOf (document_of x.opening) log s) → IsAuthorOf (document_of x.opening) log s a) → AreAuthorsOf O log x → IsAuthorOf O log s a
kept_or_new O log x s o a e f h =
    subst (λ D. IsAuthorOf D log s a) h.opened (f (subst (λ D. IfSome o (IsAuthorOf D log s)) (sym h.opened) (one_kept O log x s o e h)))

pub without_one : (O : Document) (log : List Entry) (x y : Authors) (s : ℕ) → y.opening ≡ x.opening → ((q : ℕ) → get nat_cmp y.docs q ≡ cond (is_eq (nat_cmp s q)) None (get nat_cmp x.docs q)) → AreAuthorsOf O log x → AreAuthorsOf O log y
without_one O log x y s same gone h = record {
  opened = subst (λ d. document_of d ≡ O) (sym same) h.opened;
  each = λ q a at. go q a (is_eq (nat_cmp s q)) (sym (gone q) ∙ at);
}
  where
    go : (q : ℕ) (a : AuthorDoc) (b : Bool) → cond b None (get nat_cmp x.docs q) ≡ Some a → IsAuthorOf O log q a
    go q a true e = cc
    go q a false e = h.each q a e

pub with_one : (O : Document) (log : List Entry) (x y : Authors) (s : ℕ) (one : AuthorDoc) → y.opening ≡ x.opening → ((q : ℕ) → get nat_cmp y.docs q ≡ cond (is_eq (nat_cmp s q)) (Some one) (get nat_cmp x.docs q)) → AreAuthorsOf O log x → IsAuthorOf O log s one → AreAuthorsOf O log y
with_one O log x y s one same put h is = record {
  opened = subst (λ d. document_of d ≡ O) (sym same) h.opened;
  each = λ q a at. go q a (is_eq (nat_cmp s q)) refl (sym (put q) ∙ at);
}
  where
    go : (q : ℕ) (a : AuthorDoc) (b : Bool) → is_eq (nat_cmp s q) ≡ b → cond b (Some one) (get nat_cmp x.docs q) ≡ Some a → IsAuthorOf O log q a
    go q a true e got =
        let key : s ≡ q = exact_unsigned s q (is_eq_equal (nat_cmp s q) e) in
        let same : one ≡ a = cc in
        subst (λ n. IsAuthorOf O log n a) key (subst (IsAuthorOf O log s) same is)
    go q a false e got = h.each q a got

-- ## At a reference

same_one : (a b : AuthorDoc) → Some a ≡ Some b → a ≡ b
same_one a b e = cc

-- the one that is found is at the reference
pub leads_there : (O : Document) (log : List Entry) (a b : AuthorDoc) (d : Doc) (s r : ℕ) (o : Option AuthorDoc) → o ≡ Some a → o ≡ Some b → b.at ≡ r → b.seen ≡ length log
    → LeadsTo O (author_list (take a.seen log) s a.at) d → LeadsTo O (author_list log s r) d
leads_there O log a b d s r o is kept at seen leads =
    let same : a ≡ b = same_one a b (sym is ∙ kept) in
    let one : LeadsTo O (author_list (take b.seen log) s b.at) d = subst (λ (x : AuthorDoc). LeadsTo O (author_list (take x.seen log) s x.at) d) same leads in
    let two : LeadsTo O (author_list (take b.seen log) s r) d = subst (λ n. LeadsTo O (author_list (take b.seen log) s n) d) at one in
    subst (λ l. LeadsTo O (author_list l s r) d) (take_all b.seen log (omega (arith, seen))) two

-- ## As the log grows

pub authors_stay : (O : Document) (log more : List Entry) (x : Authors) → AreAuthorsOf O log x → AreAuthorsOf O (log ++ more) x
authors_stay O log more x h = record { opened = h.opened; each = λ s a at. stays_longer O log more s a (h.each s a at) }
