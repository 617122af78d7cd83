use Rattle.proto_attr.proofs.Lemmas.{◌∙◌, bindings, plain, err_from_is_err_and, grows-itself, class_written, setter_say, ends-after, set-of-classes}
use Rattle.proto_attr.proofs.native_objects.setters.setter_native.Goals as goal

pub returns-in_err-class-in_default : goal.returns-in_err-class-in_default
returns-in_err-class-in_default c =
    let w = c.args.world.now in
    let p = c.args.property in
    let args = c.args.call.args.now in
    let e = err_from_is_err_and c.from_residual-in_err-class-in_default.result c.from_residual-in_err-class-in_default.ensures.1 in
    rw (e.1, e.2) (record {
      ends = λ t r.
          let u = plain t w in
          (r, set-of-classes u p args (bindings t c.args.call.kw.now) c.in_default.not-Class c.in_default.not-InstanceDict ∙ c.in_err-class-in_default.ensures.refused t (class_written u p));
      safe = (grows-itself w, tt);
    })

pub returns-in_ok-class-in_default : goal.returns-in_ok-class-in_default
returns-in_ok-class-in_default c =
    let w = c.args.world.now in
    let p = c.args.property in
    let args = c.args.call.args.now in
    let class = c.in_ok-class-in_default.class.0 in
    let given = c.in_ok-class-in_default.given in
    record {
      ends = ends-after (λ t u. setter_say u p args (bindings t c.args.call.kw.now)) (λ t u. class_written u p class given) w c.class_written.new.world c.class_written.result (λ t r.
          let u = plain t w in
          set-of-classes u p args (bindings t c.args.call.kw.now) c.in_default.not-Class c.in_default.not-InstanceDict
          ∙ c.in_ok-class-in_default.ensures.given t (class_written u p)) c.class_written.ensures.ends;
      safe = c.class_written.ensures.safe;
    }
