-- `math::root::refine` meets its contract: the root from that of the upper half, by one division. Assumes nothing.
use Rattle.math.proofs.Division as by
use Rattle.math.proofs.root.refine.Goals as goal

pub overflow_mul-over : goal.overflow_mul-over
overflow_mul-over c =
    let pre = c.requires in
    by.fits_rest_base (by.divided pre)

pub overflow_add-over : goal.overflow_add-over
overflow_add-over c =
    let pre = c.requires in
    by.fits_over (by.divided pre)

pub overflow_mul-root : goal.overflow_mul-root
overflow_mul-root c =
    let pre = c.requires in
    by.fits_root_base (by.divided pre)

pub overflow_add-root : goal.overflow_add-root
overflow_add-root c =
    let pre = c.requires in
    by.fits_root (by.divided pre)

pub overflow_mul-rest : goal.overflow_mul-rest
overflow_mul-rest c =
    let pre = c.requires in
    by.fits_u (by.divided pre)

pub overflow_add-rest : goal.overflow_add-rest
overflow_add-rest c =
    let pre = c.requires in
    by.fits_u_low (by.divided pre)

pub overflow_mul-square : goal.overflow_mul-square
overflow_mul-square c =
    let pre = c.requires in
    by.fits_square (by.divided pre)

pub overflow_sub-result-else-square-rest : goal.overflow_sub-result-else-square-rest
overflow_sub-result-else-square-rest c =
    let pre = c.requires in
    by.some (by.divided pre)

pub overflow_mul-result : goal.overflow_mul-result
overflow_mul-result c =
    let pre = c.requires in
    by.fits_twice (by.divided pre)

pub overflow_sub-result-else-square-rest-2 : goal.overflow_sub-result-else-square-rest-2
overflow_sub-result-else-square-rest-2 c =
    let pre = c.requires in
    by.some_twice (by.divided pre)

pub overflow_add-result : goal.overflow_add-result
overflow_add-result c =
    let pre = c.requires in
    by.fits_back (by.divided pre)

pub overflow_sub-result-else-square-rest-3 : goal.overflow_sub-result-else-square-rest-3
overflow_sub-result-else-square-rest-3 c =
    let pre = c.requires in
    by.no_wrap (by.divided pre) c.if-square-rest.false

pub returns-then-square-rest : goal.returns-then-square-rest
returns-then-square-rest c =
    let pre = c.requires in
    by.exact (by.divided pre) c.if-square-rest.true

pub returns-else-square-rest : goal.returns-else-square-rest
returns-else-square-rest c =
    let pre = c.requires in
    by.over (by.divided pre) c.if-square-rest.false
