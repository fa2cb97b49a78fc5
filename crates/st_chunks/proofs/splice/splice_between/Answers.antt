use Rattle.std.proofs.Common.{◌≡◌, ◌+◌, ◌-◌, ◌++◌, ap, sym, ◌∙◌, arith, length, take, drop, get_or, refl}
use Rattle.st_chunks.proofs.Found.{joined_fit, on_ok, put_between, rest_of}
use Rattle.st_chunks.proofs.splice.splice_between.Goals as goal

pub blocks_of-requires : goal.blocks_of-requires
blocks_of-requires c =
    let bs = c.args.blocks.now.items in
    let last = c.args.from.block + c.args.to.block in
    let y = c.as_slice-2.result.now in
    let ey : y ≡ get_or bs last y = c.as_slice-2.ensures ∙ c.index-2.ensures ∙ ap (λ d. get_or bs last d) (sym c.as_slice-2.ensures) in
    let h = joined_fit bs c.args.from.block c.args.from.offset c.requires.to.0 c.args.to.block c.args.to.offset last c.as_slice.result.now y c.args.with.now
    (take (length y - c.args.to.offset) (drop c.args.to.offset y)) c.in_ok-slots.slots.items c.requires.to.1 refl ey c.in_ok-slots.ensures (rest_of c.args.to.offset y) in
    let e : length c.as_slice-3.result.now ≡ length c.in_ok-slots.slots.items = ap length c.as_slice-3.ensures.value in
    omega (arith, h, e, c.requires.to.2)

pub returns-clause-ok : goal.returns-clause-ok
returns-clause-ok c =
    let bs = c.args.blocks.now.items in
    let last = c.args.from.block + c.args.to.block in
    let x = c.as_slice.result.now in
    let y = c.as_slice-2.result.now in
    let ex : x ≡ get_or bs c.args.from.block x = c.as_slice.ensures ∙ c.index.ensures ∙ ap (λ d. get_or bs c.args.from.block d) (sym c.as_slice.ensures) in
    let ey : y ≡ get_or bs last y = c.as_slice-2.ensures ∙ c.index-2.ensures ∙ ap (λ d. get_or bs last d) (sym c.as_slice-2.ensures) in
    let e : c.in_ok-slots.slots.items ≡ take c.args.from.offset x ++ (c.args.with.now ++ drop c.args.to.offset y) =
    c.in_ok-slots.ensures ∙ ap (λ l. take c.args.from.offset x ++ (c.args.with.now ++ l)) (rest_of c.args.to.offset y) in
    on_ok c.replace.result
    (λ r place count g h. put_between bs c.in_ok-new.new.items c.replace.new.blocks.items place c.args.from.block c.args.from.offset count c.args.to.block c.args.to.offset last x y c.args.with.now
    c.in_ok-slots.slots.items g h refl ex ey e (c.in_ok-new.ensures ∙ c.as_slice-3.ensures.value) r)
    c.replace.ensures.ok
