use Rattle.proto_attr.proofs.Lemmas.{◌∙◌, bindings, plain, err_from_is_err_and, grows-itself, class_read, getter_say, ends-after, of-classes}
use Rattle.proto_attr.proofs.native_objects.getters.getter_native.Goals as goal

pub returns-in_err-class-in_default : goal.returns-in_err-class-in_default
returns-in_err-class-in_default c =
    let w = c.args.world.now in
    let p = c.args.property in
    let args = c.args.call.args.now in
    let e = err_from_is_err_and c.from_residual-in_err-class-in_default.result c.from_residual-in_err-class-in_default.ensures.1 in
    rw (e.1, e.2) (record {
      ends = λ t r.
          let u = plain t w in
          (r, of-classes u p args (bindings t c.args.call.kw.now) c.in_default.not-Class c.in_default.not-InstanceDict ∙ c.in_err-class-in_default.ensures.refused t (class_read u p));
      safe = (grows-itself w, tt);
    })

pub returns-in_ok-class-in_default : goal.returns-in_ok-class-in_default
returns-in_ok-class-in_default c =
    let w = c.args.world.now in
    let p = c.args.property in
    let args = c.args.call.args.now in
    let class = c.in_ok-class-in_default.class.0 in
    record {
      ends = ends-after (λ t u. getter_say u p args (bindings t c.args.call.kw.now)) (λ t u. class_read u p class) w c.class_read.new.world c.class_read.result (λ t r.
          let u = plain t w in
          of-classes u p args (bindings t c.args.call.kw.now) c.in_default.not-Class c.in_default.not-InstanceDict
          ∙ c.in_ok-class-in_default.ensures.given t (class_read u p)) c.class_read.ensures.ends;
      safe = c.class_read.ensures.safe;
    }
