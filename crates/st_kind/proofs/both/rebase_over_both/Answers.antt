use Rattle.std.proofs.Common.{rules}
use Rattle.st_kind.specs.Named.{either}
use Rattle.st_kind.proofs.Memory.{no_memory}
use Rattle.st_kind.proofs.both.rebase_over_both.Goals as goal

pub returns-in_err-between-clause-one : goal.returns-in_err-between-clause-one
returns-in_err-between-clause-one g c =
    let r = c.requires in
    let none = no_memory c.in_err-between.field-0.0 _ (c.in_err-between.ensures.rebased r.0 r.1 r.3 r.4 r.9 r.10 r.12 r.6 r.7) in
    search rules

pub returns-in_err-between-clause-embedded : goal.returns-in_err-between-clause-embedded
returns-in_err-between-clause-embedded g c n m k a b d emb s t f_a f_b f_d k_a k_b =
    let none = no_memory c.in_err-between.field-0.0 _ (c.in_err-between.ensures.rebased n m a b f_a f_b k_a emb s) in
    search rules

pub returns-in_err-in_turn-clause-one : goal.returns-in_err-in_turn-clause-one
returns-in_err-in_turn-clause-one g c =
    let r = c.requires in
    let between = c.in_ok-between.ensures.rebased r.0 r.1 r.3 r.4 r.9 r.10 r.12 r.6 r.7 in
    let none = no_memory c.in_err-in_turn.field-0.0 _ (c.in_err-in_turn.ensures.rebased r.0 r.2 r.4 r.5 r.10 r.11 r.13 between r.8) in
    search rules

pub returns-in_err-in_turn-clause-embedded : goal.returns-in_err-in_turn-clause-embedded
returns-in_err-in_turn-clause-embedded g c n m k a b d emb s t f_a f_b f_d k_a k_b =
    let between = c.in_ok-between.ensures.rebased n m a b f_a f_b k_a emb s in
    let none = no_memory c.in_err-in_turn.field-0.0 _ (c.in_err-in_turn.ensures.rebased n k b d f_b f_d k_b between t) in
    search rules

pub returns-in_err-both-clause-one : goal.returns-in_err-both-clause-one
returns-in_err-both-clause-one g c =
    let r = c.requires in
    let none = no_memory c.in_err-both.field-0.0 _ (c.in_err-both.ensures.composed r.1 r.2 r.3 r.4 r.5 r.7 r.8) in
    search rules

pub returns-in_err-both-clause-embedded : goal.returns-in_err-both-clause-embedded
returns-in_err-both-clause-embedded g c n m k a b d emb s t f_a f_b f_d k_a k_b =
    let none = no_memory c.in_err-both.field-0.0 _ (c.in_err-both.ensures.composed m k a b d s t) in
    search rules

pub compose-requires-clause-first : goal.compose-requires-clause-first
compose-requires-clause-first g c = let r = c.requires in c.steps_are_short.ensures r.1 r.3 r.4 _ r.7

pub compose-requires-clause-then : goal.compose-requires-clause-then
compose-requires-clause-then g c = let r = c.requires in c.steps_are_short.ensures r.2 r.4 r.5 _ r.8

pub rebase-requires-3 : goal.rebase-requires-3
rebase-requires-3 g c =
    let r = c.requires in
    let both = c.in_ok-both.ensures.composed r.1 r.2 r.3 r.4 r.5 r.7 r.8 in
    c.there_is_room.ensures r.0 (either r.1 r.2) r.3 r.5 _ _ r.9 r.11 r.15 r.6 both

pub returns-in_err-at_once-clause-one : goal.returns-in_err-at_once-clause-one
returns-in_err-at_once-clause-one g c =
    let r = c.requires in
    let both = c.in_ok-both.ensures.composed r.1 r.2 r.3 r.4 r.5 r.7 r.8 in
    let keeps = c.keeps_in_turn.ensures r.0 r.3 r.4 r.5 r.12 r.13 in
    let none = no_memory c.in_err-at_once.field-0.0 _ (c.in_err-at_once.ensures.rebased r.0 (either r.1 r.2) r.3 r.5 r.9 r.11 keeps r.6 both) in
    search rules

pub returns-in_err-at_once-clause-embedded : goal.returns-in_err-at_once-clause-embedded
returns-in_err-at_once-clause-embedded g c n m k a b d emb s t f_a f_b f_d k_a k_b =
    let both = c.in_ok-both.ensures.composed m k a b d s t in
    let keeps = c.keeps_in_turn.ensures n a b d k_a k_b in
    let none = no_memory c.in_err-at_once.field-0.0 _ (c.in_err-at_once.ensures.rebased n (either m k) a d f_a f_d keeps emb both) in
    search rules

pub returns-clause-one : goal.returns-clause-one
returns-clause-one g c =
    let r = c.requires in
    let between = c.in_ok-between.ensures.rebased r.0 r.1 r.3 r.4 r.9 r.10 r.12 r.6 r.7 in
    let in_turn = c.in_ok-in_turn.ensures.rebased r.0 r.2 r.4 r.5 r.10 r.11 r.13 between r.8 in
    let both = c.in_ok-both.ensures.composed r.1 r.2 r.3 r.4 r.5 r.7 r.8 in
    let keeps = c.keeps_in_turn.ensures r.0 r.3 r.4 r.5 r.12 r.13 in
    let at_once = c.in_ok-at_once.ensures.rebased r.0 (either r.1 r.2) r.3 r.5 r.9 r.11 keeps r.6 both in
    c.one_embedding.ensures r.0 r.5 _ _ in_turn at_once
